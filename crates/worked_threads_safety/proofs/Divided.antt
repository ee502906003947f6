-- A par block whose members read one field, with half of it each; then it is written: whatever is picked, the judge doesn't fail.
use Rattle.std.proofs.Common.{◌≡◌, ℕ, ℤ, pos, true, false, Option, Some, None, List, refl}
use Rattle.std.specs.Prelude.{◌-◌, nat_eq, nat_le}
use Rattle.pv_ast.specs.declared.PvType.TheVariants as type
use Rattle.pv_values.specs.declared.value.Value.TheVariants as value
use Rattle.pv_fraction.specs.Amounts.{whole}
use Rattle.pv_picks.specs.declared.check.Check.TheVariants as check
use Rattle.pv_picks.specs.declared.evidence.Entry.{Entry}
use Rattle.pv_picks.specs.declared.unit.Part.TheVariants as part
use Rattle.pv_picks.specs.Plain.Core.{Constant, This, Variable, Field, Equal, Formula, FieldPermission, Star, When, Fixed, Items, Join, NoItems, ToVariable, ToField, Value', Assign, Block, Stop, Then}
use Rattle.pv_picks.specs.Formulas.Values.{no_variables, at_position}
use Rattle.pv_picks.specs.Judge.Rows.{Site}
use Rattle.pv_picks.specs.Judge.States.{State, Holding, Written, Resource, InField, amount_of, bind_of, cells_of, nothing_held, with_amount, with_value, with_cell}
use Rattle.pv_picks.specs.Judge.Settings.{Setting}
use Rattle.pv_picks.specs.Judge.Inhaling.{inhale_items}
use Rattle.pv_picks.specs.Judge.Judging.{judge_block, at_body_end}
use Rattle.pv_picks.specs.Judge.Runs.{Maps, Judged, judging}
use Rattle.pv_picks.specs.Judge.UnitRuns.{of_method, judge_task, task_of}
use Rattle.worked_programs.specs.Nodes.{name, at}
use Rattle.worked_programs.specs.CoreWitnesses.{divided}
use Rattle.worked_forms.proofs.Safely.{Safe, blocks, finishes, picked, signed, tested, passed, failed, turned, same_self}
use Rattle.worked_threads_safety.proofs.Rows.{unit, entered, remembered, gains_part, gains_more, reads, positions}

abbrev half : ℕ
half = 2671465728531600

abbrev field : ℕ → Resource
field n = InField (name 0) n (name 1)

abbrev half_of : ℤ → Option Holding
half_of z = Some (record { amount = half; cell = Written (value.Number z) })

module _ (maps : Maps) (table : List Entry) where
  abbrev S : Setting Judged
  S = judging maps table

  -- the body of the member at a position, and what it gives back
  abbrev site : ℤ → Site
  site i = record { variable = name 3; low = pos 0; high = pos 2; begun = at_position no_variables (name 3) i }

  abbrev after : Formula
  after = Star
      (When (Equal true (Variable (name 3)) (Constant (value.Number (pos 0))))
      (FieldPermission This (name 0) (name 1) type.Int half (at 212 235)) (at 212 235))
      (When (Equal true (Variable (name 3)) (Constant (value.Number (pos 1))))
      (FieldPermission This (name 0) (name 1) type.Int half (at 251 274)) (at 251 274))

  abbrev reading : Block
  reading = Then (Assign (ToVariable (name 4)) (Value' (Field This (name 0) (name 1) (at 296 297))) (at 288 298)) Stop

  abbrev on : ℤ → State → Judged
  on i = judge_block S divided (site i) reading (at_body_end S (site i) check.BlockEnsures after)

  first_reads : (z : ℤ) (s : State) → nat_eq s.this 0 ≡ false → s.held (field s.this) ≡ half_of z → Safe (on (pos 0) s)
  first_reads z s there held =
      failed (nat_eq s.this 0) _ _ there
      (reads maps table (cells_of s (field s.this)) (value.Number z) _ _ s (rw (held) refl)
      (passed (nat_le half (amount_of s (field s.this))) _ _ (rw (held) refl) finishes))

  second_reads : (z : ℤ) (s : State) → nat_eq s.this 0 ≡ false → s.held (field s.this) ≡ half_of z → Safe (on (pos 1) s)
  second_reads z s there held =
      failed (nat_eq s.this 0) _ _ there
      (reads maps table (cells_of s (field s.this)) (value.Number z) _ _ s (rw (held) refl)
      (passed (nat_le half (amount_of s (field s.this))) _ _ (rw (held) refl) finishes))

  -- behind the block the method has both halves again, and writes

  abbrev each_after : Items
  each_after = Join
      (Fixed (Constant (value.Number (pos 0))) (FieldPermission This (name 0) (name 1) type.Int half (at 212 235)) (at 212 235))
      (Join
      (Fixed (Constant (value.Number (pos 1))) (FieldPermission This (name 0) (name 1) type.Int half (at 251 274)) (at 251 274))
      NoItems)

  abbrev writing : State → Judged
  writing = judge_block S divided (of_method no_variables)
      (Then (Assign (ToField This (name 0) (name 1) (at 309 310)) (Value' (Constant (value.Number (pos 3)))) (at 309 315)) Stop)
      (at_body_end S (of_method no_variables) check.Ensures
      (FieldPermission This (name 0) (name 1) type.Int 5342931457063200 (at 60 74)))

  writes : (s : State) → nat_eq s.this 0 ≡ false → amount_of s (field s.this) ≡ whole → Safe (writing s)
  writes s there held =
      failed (nat_eq s.this 0) _ _ there
      (passed (nat_le whole (amount_of s (field s.this))) _ _ (rw (held) refl)
      (passed (nat_le whole (amount_of (with_value s (field s.this) (value.Number (pos 3))) (field s.this))) _ _
      (rw (same_self s.this, held) refl) finishes))

  takes_back : (s : State) → nat_eq s.this 0 ≡ false → s.held (field s.this) ≡ None
      → Safe (inhale_items S (bind_of s) (name 3) (pos 0) (pos 2) each_after writing s)
  takes_back s there none =
      gains_part maps table (name 0) s.this (name 1) half _ s there none refl λ z.
      gains_more maps table (name 0) s.this (name 1) 2671465728531599 half _
      (with_cell s (field s.this) half (value.Number z)) there (rw (same_self s.this) refl) refl
      (writes (with_amount (with_cell s (field s.this) half (value.Number z)) (field s.this) whole) there
      (rw (same_self s.this) refl))

  -- the state in which the method begins, and what is left with one half and with both given
  abbrev begun : ℕ → ℤ → State
  begun n z = remembered (with_cell (entered (name 0) n) (field n) whole (value.Number z))

  abbrev less : ℕ → State → State
  less n s = with_amount s (field n) (amount_of s (field n) - half)

  abbrev member : ℤ → State → State
  member i s =
      let empty : State = nothing_held s in record empty { variables = at_position s.variables (name 3) i }

  pub share_safe : Safe (judge_task S divided (task_of divided (unit 0 (part.Member 1))))
  share_safe =
      picked (signed _ (λ n. blocks) λ n. tested (nat_eq n 0) _ _ (λ e. blocks) λ e.
      failed (nat_eq n 0) _ _ e (picked λ z.
      turned _ (λ m. blocks) (failed (nat_eq n 0) _ _ e (picked λ y. finishes))
      (passed (nat_le half (amount_of (begun n z) (field n))) _ _ (rw (same_self n) refl)
      (passed (nat_le half (amount_of (less n (begun n z)) (field n))) _ _ (rw (same_self n) refl)
      (turned _
      (λ m. takes_back (less n (less n (begun n z))) e (rw (same_self n) refl))
      (picked (positions _ (failed (nat_eq n 0) _ _ e (picked λ y. finishes))
      (failed (nat_eq n 0) _ _ e (picked λ y. finishes))))
      (picked (positions _
      (failed (nat_eq n 0) _ _ e (picked λ y.
      first_reads y (with_cell (member (pos 0) (less n (less n (begun n z)))) (field n) half (value.Number y)) e
      (rw (same_self n) refl)))
      (failed (nat_eq n 0) _ _ e (picked λ y.
      second_reads y (with_cell (member (pos 1) (less n (less n (begun n z)))) (field n) half (value.Number y)) e
      (rw (same_self n) refl))))))))))
