-- Rows of the judge on a state of which only what they look at is known.
use Rattle.std.proofs.Common.{◌≡◌, ℕ, zero, suc, ℤ, pos, negsuc, Bool, true, false, Option, Some, None, List, refl, arith}
use Rattle.std.specs.Prelude.{◌+◌, int_le, int_lt, nat_eq, nat_le, not, if◌then◌else◌}
use Rattle.std.proofs.lemmas.Bool.{and_parts}
use Rattle.std.proofs.lemmas.Int.{ints}
use Rattle.pv_base.specs.declared.Name.{Name}
use Rattle.pv_ast.specs.declared.PvType.TheVariants as type
use Rattle.pv_values.specs.declared.value.Value.{Value}
use Rattle.pv_values.specs.declared.value.Value.TheVariants as value
use Rattle.pv_fraction.specs.Amounts.{whole}
use Rattle.pv_picks.specs.declared.evidence.Entry.{Entry}
use Rattle.pv_picks.specs.declared.unit.Part.{Part}
use Rattle.pv_picks.specs.declared.unit.PvUnit.{PvUnit}
use Rattle.pv_picks.specs.Formulas.Values.{within}
use Rattle.pv_picks.specs.Judge.States.{State, Folded, Cell, Written, InField, amount_of, cells_of, empty_state, with_amount, with_cell, with_met, with_instances}
use Rattle.pv_picks.specs.Judge.Settings.{Next, or_missing}
use Rattle.pv_picks.specs.Judge.Permissions.{gain_field, or_short}
use Rattle.pv_picks.specs.Judge.Runs.{Maps, Judged, blocked, judging}
use Rattle.worked_forms.proofs.Safely.{Safe, blocks, picked, signed, tested, passed, failed}

-- the part of the class at a place
abbrev pub unit : ℕ → Part → PvUnit
unit class p = record { class = class; part = p }

-- the state in which an object's method is entered, and that in which its body begins
abbrev pub entered : Name → ℕ → State
entered class n = record (with_met empty_state (type.Object class) n) { this = n }

abbrev pub remembered : State → State
remembered s = record s { old = cells_of s }

module _ (maps : Maps) (table : List Entry) where
  -- so much of a field of which nothing was held, with any number in it
  pub gains_part : (class : Name) (object : ℕ) (name : Name) (amount : ℕ) (next : Next Judged) (s : State)
      → nat_eq object 0 ≡ false → s.held (InField class object name) ≡ None → nat_le (0 + amount) whole ≡ true
      → ((z : ℤ) → Safe (next (with_cell s (InField class object name) amount (value.Number z))))
      → Safe (gain_field (judging maps table) class object name type.Int amount next s)
  gains_part class object name amount next s there none fits h =
      failed (nat_eq object 0) _ _ there (rw (none) (passed (nat_le (0 + amount) whole) _ _ fits (picked h)))

  -- the whole of it
  pub gains : (class : Name) (object : ℕ) (name : Name) (next : Next Judged) (s : State) → nat_eq object 0 ≡ false
      → s.held (InField class object name) ≡ None
      → ((z : ℤ) → Safe (next (with_cell s (InField class object name) whole (value.Number z))))
      → Safe (gain_field (judging maps table) class object name type.Int whole next s)
  gains class object name next s there none h = gains_part class object name whole next s there none refl h

  -- more of a field of which something is held
  pub gains_more : (class : Name) (object : ℕ) (name : Name) (had amount : ℕ) (next : Next Judged) (s : State)
      → nat_eq object 0 ≡ false → amount_of s (InField class object name) ≡ suc had
      → nat_le (suc had + amount) whole ≡ true → Safe (next (with_amount s (InField class object name) (suc had + amount)))
      → Safe (gain_field (judging maps table) class object name type.Int amount next s)
  gains_more class object name had amount next s there is fits h =
      failed (nat_eq object 0) _ _ there (rw (is) (passed (nat_le (suc had + amount) whole) _ _ fits h))

  -- a reference is picked for a field
  pub gains_reference : (class : Name) (object : ℕ) (name of : Name) (next : Next Judged) (s : State) → nat_eq object 0 ≡ false
      → s.held (InField class object name) ≡ None
      → ((m : ℕ) → Safe (next
      (with_cell (with_met s (type.Object of) m) (InField class object name) whole (value.Reference m))))
      → Safe (gain_field (judging maps table) class object name (type.Object of) whole next s)
  gains_reference class object name of next s there none h =
      failed (nat_eq object 0) _ _ there (rw (none) (picked (signed _ (λ n. blocks) h)))

  -- what is held is read
  pub reads : (cell : Option Cell) (v : Value) (missing : Judged) (next : Value → Next Judged) (s : State)
      → cell ≡ Some (Written v) → Safe (next v s) → Safe (or_missing (judging maps table) cell missing next s)
  reads cell v missing next s is h = rw (is) h

  -- an instance that is there is given
  pub takes : (left : Option (List Folded)) (found : List Folded) (short : Judged) (next : Next Judged) (s : State)
      → left ≡ Some found → Safe (next (with_instances s found)) → Safe (or_short (judging maps table) left short next s)
  takes left found short next s is h = rw (is) h

-- a test that is turned round
pub unless : (b : Bool) (x y : Judged) → (b ≡ false → Safe x) → (b ≡ true → Safe y) → Safe (if not b then x else y)
unless true x y h k = k refl
unless false x y h k = h refl

-- a position of two
pub positions : (P : ℤ → Judged) → Safe (P (pos 0)) → Safe (P (pos 1))
    → (i : ℤ) → Safe (if within (pos 0) (pos 2) i then P i else blocked)
positions P first second (pos zero) = first
positions P first second (pos (suc zero)) = second
positions P first second (pos (suc (suc n))) =
    tested (within (pos 0) (pos 2) (pos (suc (suc n)))) (P (pos (suc (suc n)))) blocked
    (λ e. absurd (omega ((and_parts (int_le (pos 0) (pos (suc (suc n)))) (int_lt (pos (suc (suc n))) (pos 2)) e).1, arith, ints)))
    (λ e. blocks)
positions P first second (negsuc n) =
    tested (within (pos 0) (pos 2) (negsuc n)) (P (negsuc n)) blocked
    (λ e. absurd (omega ((and_parts (int_le (pos 0) (negsuc n)) (int_lt (negsuc n) (pos 2)) e).0, arith, ints))) (λ e. blocks)
