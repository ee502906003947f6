-- A par block whose first member hands a field to the second one at a barrier: whatever is picked, the judge doesn't fail.
use Rattle.std.proofs.Common.{◌≡◌, ℕ, ℤ, pos, true, false, None, List, [], ◌∷◌, refl}
use Rattle.std.specs.Prelude.{◌-◌, nat_eq, nat_le}
use Rattle.pv_ast.specs.declared.PvType.TheVariants as type
use Rattle.pv_values.specs.declared.value.Value.TheVariants as value
use Rattle.pv_values.specs.Sames.{same_value}
use Rattle.pv_fraction.specs.Amounts.{whole}
use Rattle.pv_picks.specs.declared.check.Check.TheVariants as check
use Rattle.pv_picks.specs.declared.evidence.Entry.{Entry}
use Rattle.pv_picks.specs.declared.unit.Part.TheVariants as part
use Rattle.pv_picks.specs.Plain.Core.{Constant, This, Variable, Equal, FieldPermission, ToField, Value', Assign, If, When, Fixed, Join, NoItems, Meet, Barrier, Block, Stop, Then}
use Rattle.pv_picks.specs.Formulas.Values.{no_variables, at_position}
use Rattle.pv_picks.specs.Judge.Rows.{Site}
use Rattle.pv_picks.specs.Judge.States.{State, Resource, InField, amount_of, nothing_held, with_amount, with_value, with_cell}
use Rattle.pv_picks.specs.Judge.Settings.{Setting}
use Rattle.pv_picks.specs.Judge.Judging.{judge_block, at_body_end}
use Rattle.pv_picks.specs.Judge.Runs.{Maps, Judged, judging}
use Rattle.pv_picks.specs.Judge.UnitRuns.{judge_task, task_of}
use Rattle.worked_programs.specs.Nodes.{name, at}
use Rattle.worked_programs.specs.CoreNodes.{always, contract, shared, barrier}
use Rattle.worked_programs.specs.CoreWitnesses.{relay}
use Rattle.worked_forms.proofs.Safely.{Safe, blocks, finishes, picked, signed, tested, passed, failed, turned, same_self}
use Rattle.worked_threads_safety.proofs.Rows.{unit, entered, remembered, gains, positions}

abbrev field : ℕ → Resource
field n = InField (name 0) n (name 1)

module _ (maps : Maps) (table : List Entry) where
  abbrev S : Setting Judged
  S = judging maps table

  -- the body of the member at a position
  abbrev site : ℤ → Site
  site i = record { variable = name 4; low = pos 0; high = pos 2; begun = at_position no_variables (name 4) i }

  abbrev on : ℤ → Block → State → Judged
  on i b = judge_block S relay (site i) b (at_body_end S (site i) check.BlockEnsures always)

  abbrev second_writes : Block
  second_writes = Then
      (If (Equal true (Variable (name 4)) (Constant (value.Number (pos 1))))
      (Then (Assign (ToField This (name 0) (name 1) (at 310 311)) (Value' (Constant (value.Number (pos 2)))) (at 310 316)) Stop)
      Stop) Stop

  abbrev meet : Barrier
  meet = barrier (0 ∷ 0 ∷ 1 ∷ [])
      (shared
      (contract
      (When (Equal true (Variable (name 4)) (Constant (value.Number (pos 0))))
      (FieldPermission This (name 0) (name 1) type.Int 5342931457063200 (at 212 237)) (at 212 237))
      (When (Equal true (Variable (name 4)) (Constant (value.Number (pos 1))))
      (FieldPermission This (name 0) (name 1) type.Int 5342931457063200 (at 255 280)) (at 255 280)))
      (Join
      (Fixed (Constant (value.Number (pos 0))) (FieldPermission This (name 0) (name 1) type.Int 5342931457063200 (at 212 237))
      (at 212 237)) NoItems)
      (Join
      (Fixed (Constant (value.Number (pos 1))) (FieldPermission This (name 0) (name 1) type.Int 5342931457063200 (at 255 280))
      (at 255 280)) NoItems))

  abbrev meeting : Block
  meeting = Then (Meet meet (at 179 289)) second_writes

  abbrev first_writes : Block
  first_writes = Then
      (If (Equal true (Variable (name 4)) (Constant (value.Number (pos 0))))
      (Then (Assign (ToField This (name 0) (name 1) (at 164 165)) (Value' (Constant (value.Number (pos 1)))) (at 164 170)) Stop)
      Stop) meeting

  -- the member at a position
  record Stands (i : ℤ) (s : State) : Type 0 where
    there : nat_eq s.this 0 ≡ false
    position : s.variables 4 ≡ value.Number i

  -- the second one has the field and writes it
  second_ends : (s : State) → Stands (pos 1) s → amount_of s (field s.this) ≡ whole → Safe (on (pos 1) second_writes s)
  second_ends s h held =
      passed (same_value (s.variables 4) (value.Number (pos 1))) _ _ (rw (h.position) refl)
      (failed (nat_eq s.this 0) _ _ h.there
      (passed (nat_le whole (amount_of s (field s.this))) _ _ (rw (held) refl) finishes))

  -- at the barrier the first one gives the field away
  first_meets : (s : State) → Stands (pos 0) s → amount_of s (field s.this) ≡ whole → Safe (on (pos 0) meeting s)
  first_meets s h held =
      passed (nat_le whole (amount_of s (field s.this))) _ _ (rw (held) refl)
      (turned _ (λ m. failed (same_value (s.variables 4) (value.Number (pos 1))) _ _ (rw (h.position) refl) finishes)
      (picked (positions _ (failed (nat_eq s.this 0) _ _ h.there (picked λ y. finishes))
      (failed (nat_eq s.this 0) _ _ h.there (picked λ y. finishes))))
      (failed (nat_eq s.this 0) _ _ h.there (picked λ y. rw (same_self s.this) finishes)))

  -- the second one takes it
  second_meets : (s : State) → Stands (pos 1) s → s.held (field s.this) ≡ None → Safe (on (pos 1) meeting s)
  second_meets s h none =
      turned _
      (λ m. gains maps table (name 0) s.this (name 1) _ s h.there none λ z.
      second_ends (with_cell s (field s.this) whole (value.Number z)) (record { there = h.there; position = h.position })
      (rw (same_self s.this) refl))
      (picked (positions _ (failed (nat_eq s.this 0) _ _ h.there (picked λ y. finishes))
      (failed (nat_eq s.this 0) _ _ h.there (picked λ y. finishes))))
      (failed (nat_eq s.this 0) _ _ h.there (picked λ y. rw (same_self s.this) finishes))

  first_safe : (s : State) → Stands (pos 0) s → amount_of s (field s.this) ≡ whole → Safe (on (pos 0) first_writes s)
  first_safe s h held =
      passed (same_value (s.variables 4) (value.Number (pos 0))) _ _ (rw (h.position) refl)
      (failed (nat_eq s.this 0) _ _ h.there
      (passed (nat_le whole (amount_of s (field s.this))) _ _ (rw (held) refl)
      (first_meets (with_value s (field s.this) (value.Number (pos 1))) (record { there = h.there; position = h.position })
      (rw (same_self s.this, held) refl))))

  second_safe : (s : State) → Stands (pos 1) s → s.held (field s.this) ≡ None → Safe (on (pos 1) first_writes s)
  second_safe s h none =
      failed (same_value (s.variables 4) (value.Number (pos 0))) _ _ (rw (h.position) refl) (second_meets s h none)

  -- the state in which a member begins
  abbrev member : ℤ → State → State
  member i s =
      let empty : State = nothing_held s in record empty { variables = at_position s.variables (name 4) i }

  -- the state in which the method begins, and what is left outside of the block
  abbrev begun : ℕ → ℤ → State
  begun n z = remembered (with_cell (entered (name 0) n) (field n) whole (value.Number z))

  abbrev less : ℕ → ℤ → State
  less n z = with_amount (begun n z) (field n) (amount_of (begun n z) (field n) - whole)

  pub relay_safe : Safe (judge_task S relay (task_of relay (unit 0 (part.Member 1))))
  relay_safe =
      picked (signed _ (λ n. blocks) λ n. tested (nat_eq n 0) _ _ (λ e. blocks) λ e.
      failed (nat_eq n 0) _ _ e (picked λ z.
      turned _ (λ m. blocks) finishes
      (passed (nat_le whole (amount_of (begun n z) (field n))) _ _ (rw (same_self n) refl)
      (turned _ (λ m. finishes)
      (picked (positions _ finishes finishes))
      (picked (positions _
      (failed (nat_eq n 0) _ _ e (picked λ y.
      first_safe (with_cell (member (pos 0) (less n z)) (field n) whole (value.Number y))
      (record { there = e; position = refl }) (rw (same_self n) refl)))
      (second_safe (member (pos 1) (less n z)) (record { there = e; position = refl }) refl)))))))
