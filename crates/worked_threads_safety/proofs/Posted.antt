-- A counted loop whose first member sends a field to the second one: whatever is picked, the judge doesn't fail.
use Rattle.std.proofs.Common.{◌≡◌, ℕ, ℤ, pos, true, false, None, List, refl}
use Rattle.std.specs.Prelude.{◌-◌, nat_eq, nat_le}
use Rattle.pv_ast.specs.declared.PvType.TheVariants as type
use Rattle.pv_values.specs.declared.value.Value.TheVariants as value
use Rattle.pv_values.specs.Sames.{same_value}
use Rattle.pv_fraction.specs.Amounts.{whole}
use Rattle.pv_picks.specs.declared.check.Check.TheVariants as check
use Rattle.pv_picks.specs.declared.evidence.Entry.{Entry}
use Rattle.pv_picks.specs.declared.unit.Part.TheVariants as part
use Rattle.pv_picks.specs.Plain.Core.{Constant, This, Variable, Equal, FieldPermission, When, ToField, Value', Assign, If, Send, Receive, Block, Stop, Then, Message}
use Rattle.pv_picks.specs.Formulas.Values.{no_variables, at_position}
use Rattle.pv_picks.specs.Judge.Rows.{Site}
use Rattle.pv_picks.specs.Judge.States.{State, Resource, InField, amount_of, nothing_held, with_amount, with_value, with_cell}
use Rattle.pv_picks.specs.Judge.Settings.{Setting}
use Rattle.pv_picks.specs.Judge.Judging.{judge_block, at_body_end}
use Rattle.pv_picks.specs.Judge.Runs.{Maps, Judged, judging}
use Rattle.pv_picks.specs.Judge.UnitRuns.{judge_task, task_of}
use Rattle.worked_programs.specs.Nodes.{name, at}
use Rattle.worked_programs.specs.CoreNodes.{always, message}
use Rattle.worked_programs.specs.CoreWitnesses.{posted}
use Rattle.worked_forms.proofs.Safely.{Safe, blocks, finishes, picked, signed, tested, passed, failed, turned, same_self}
use Rattle.worked_threads_safety.proofs.Rows.{unit, entered, remembered, gains, positions}

abbrev field : ℕ → Resource
field n = InField (name 0) n (name 1)

module _ (maps : Maps) (table : List Entry) where
  abbrev S : Setting Judged
  S = judging maps table

  -- the body of the member at a position
  abbrev site : ℤ → Site
  site i = record { variable = name 3; low = pos 0; high = pos 2; begun = at_position no_variables (name 3) i }

  abbrev on : ℤ → Block → State → Judged
  on i b = judge_block S posted (site i) b (at_body_end S (site i) check.BlockEnsures always)

  abbrev second_writes : Block
  second_writes = Then
      (If (Equal true (Variable (name 3)) (Constant (value.Number (pos 1))))
      (Then (Assign (ToField This (name 0) (name 1) (at 245 246)) (Value' (Constant (value.Number (pos 2)))) (at 245 251)) Stop)
      Stop) Stop

  abbrev letter : Message
  letter = message (name 4) 1
      (When (Equal true (Variable (name 3)) (Constant (value.Number (pos 0))))
      (FieldPermission This (name 0) (name 1) type.Int 5342931457063200 (at 184 209)) (at 184 209))

  abbrev receiving : Block
  receiving = Then (Receive letter (at 217 224)) second_writes

  abbrev sending : Block
  sending = Then (Send letter (at 173 210)) receiving

  abbrev first_writes : Block
  first_writes = Then
      (If (Equal true (Variable (name 3)) (Constant (value.Number (pos 0))))
      (Then (Assign (ToField This (name 0) (name 1) (at 158 159)) (Value' (Constant (value.Number (pos 1)))) (at 158 164)) Stop)
      Stop) sending

  -- the member at a position
  record Stands (i : ℤ) (s : State) : Type 0 where
    there : nat_eq s.this 0 ≡ false
    position : s.variables 3 ≡ value.Number i

  -- the second one has the field and writes it
  second_ends : (s : State) → Stands (pos 1) s → amount_of s (field s.this) ≡ whole → Safe (on (pos 1) second_writes s)
  second_ends s h held =
      passed (same_value (s.variables 3) (value.Number (pos 1))) _ _ (rw (h.position) refl)
      (failed (nat_eq s.this 0) _ _ h.there
      (passed (nat_le whole (amount_of s (field s.this))) _ _ (rw (held) refl) finishes))

  -- the first one gives the field away
  first_sends : (s : State) → Stands (pos 0) s → amount_of s (field s.this) ≡ whole → Safe (on (pos 0) sending s)
  first_sends s h held =
      turned _
      (λ m. passed (nat_le whole (amount_of s (field s.this))) _ _ (rw (held) refl)
      (failed (same_value (s.variables 3) (value.Number (pos 1))) _ _ (rw (h.position) refl) finishes))
      (failed (nat_eq s.this 0) _ _ h.there (picked λ z. finishes)) blocks

  -- the second one sends nothing and receives it
  second_sends : (s : State) → Stands (pos 1) s → s.held (field s.this) ≡ None → Safe (on (pos 1) sending s)
  second_sends s h none =
      turned _
      (λ m. gains maps table (name 0) s.this (name 1) _ s h.there none λ z.
      second_ends (with_cell s (field s.this) whole (value.Number z)) (record { there = h.there; position = h.position })
      (rw (same_self s.this) refl))
      finishes blocks

  first_safe : (s : State) → Stands (pos 0) s → amount_of s (field s.this) ≡ whole → Safe (on (pos 0) first_writes s)
  first_safe s h held =
      passed (same_value (s.variables 3) (value.Number (pos 0))) _ _ (rw (h.position) refl)
      (failed (nat_eq s.this 0) _ _ h.there
      (passed (nat_le whole (amount_of s (field s.this))) _ _ (rw (held) refl)
      (first_sends (with_value s (field s.this) (value.Number (pos 1))) (record { there = h.there; position = h.position })
      (rw (same_self s.this, held) refl))))

  second_safe : (s : State) → Stands (pos 1) s → s.held (field s.this) ≡ None → Safe (on (pos 1) first_writes s)
  second_safe s h none =
      failed (same_value (s.variables 3) (value.Number (pos 0))) _ _ (rw (h.position) refl) (second_sends s h none)

  -- the state in which a member begins
  abbrev member : ℤ → State → State
  member i s =
      let empty : State = nothing_held s in record empty { variables = at_position s.variables (name 3) i }

  -- the state in which the method begins, and what is left outside of the loop
  abbrev begun : ℕ → ℤ → State
  begun n z = remembered (with_cell (entered (name 0) n) (field n) whole (value.Number z))

  abbrev less : ℕ → ℤ → State
  less n z = with_amount (begun n z) (field n) (amount_of (begun n z) (field n) - whole)

  pub post_safe : Safe (judge_task S posted (task_of posted (unit 0 (part.Member 1))))
  post_safe =
      picked (signed _ (λ n. blocks) λ n. tested (nat_eq n 0) _ _ (λ e. blocks) λ e.
      failed (nat_eq n 0) _ _ e (picked λ z.
      turned _ (λ m. blocks) finishes
      (passed (nat_le whole (amount_of (begun n z) (field n))) _ _ (rw (same_self n) refl)
      (turned _ (λ m. finishes)
      (picked (positions _ finishes finishes))
      (picked (positions _
      (failed (nat_eq n 0) _ _ e (picked λ y.
      first_safe (with_cell (member (pos 0) (less n z)) (field n) whole (value.Number y))
      (record { there = e; position = refl }) (rw (same_self n) refl)))
      (second_safe (member (pos 1) (less n z)) (record { there = e; position = refl }) refl)))))))
