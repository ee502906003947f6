-- A start with two arrays; and starts that are refused, for amounts that are more than there is, or a precondition that isn't
-- met.
use Rattle.std.proofs.Common.{◌≡◌, ℕ, zero, suc, ◌+◌, ◌≤◌, pos, negsuc, Bool, true, false, ◌&&◌, Some, nat_eq, refl, subst, inl, arith}
use Rattle.std.specs.Prelude.{IsSome, IsTrue, if◌then◌else◌}
use Rattle.std.proofs.lemmas.Bool.{eqb-true}
use Rattle.pv_base.specs.declared.Name.{Name}
use Rattle.pv_values.specs.declared.value.Value.{Value}
use Rattle.pv_values.specs.declared.value.Location.{Location}
use Rattle.pv_values.specs.declared.value.Location.TheVariants.{Field, Cell}
use Rattle.pv_values.specs.Heaps.{value_at, class_of, same_number}
use Rattle.pv_values.specs.Typing.{is_number, HoldsOnly, HasKindOf}
use Rattle.pv_fraction.specs.Amounts.{whole}
use Rattle.pv_picks.specs.Formulas.Heaps.{heap_of}
use Rattle.pv_picks.specs.Machine.Frames.{only_now, outer_scene}
use Rattle.pv_picks.specs.Formulas.Meeting.{AllMet, FirstUnmet, units_in}
use Rattle.pv_picks.specs.Machine.Starts.{IsStart, field_kind}
use Rattle.worked_runs.specs.Building.{nowhere, integer}
use Rattle.worked_runs.specs.Refused.{first_class, both, both_method, program, of_two_arrays, of_one_array, of_another_number}

no_fields : (object : ℕ) (class name : Name) (given : Value) → class_of of_two_arrays.heap object ≡ Some class
    → value_at of_two_arrays.heap (Field object name) ≡ Some given
    → HasKindOf of_two_arrays.heap (field_kind program class name) given
no_fields zero class name given hc hv = absurd (cc)
no_fields (suc zero) class name given hc hv = absurd (cc)
no_fields (suc (suc zero)) class name given hc hv = absurd (cc)
no_fields (suc (suc (suc zero))) class name given hc hv = absurd (cc)
no_fields (suc (suc (suc (suc n)))) class name given hc hv = absurd (cc)

zero_only : (given : Value) → Some (integer 0) ≡ Some given → IsTrue (is_number given)
zero_only given h = let e : integer 0 ≡ given = cc in subst (λ (v : Value). IsTrue (is_number v)) e refl

numbers_only : (array : ℕ) → HoldsOnly is_number of_two_arrays.heap array
numbers_only zero index given h = absurd (cc)
numbers_only (suc zero) index given h = absurd (cc)
numbers_only (suc (suc zero)) (pos zero) given h = zero_only given h
numbers_only (suc (suc zero)) (pos (suc n)) given h = absurd (cc)
numbers_only (suc (suc zero)) (negsuc n) given h = absurd (cc)
numbers_only (suc (suc (suc zero))) (pos zero) given h = zero_only given h
numbers_only (suc (suc (suc zero))) (pos (suc n)) given h = absurd (cc)
numbers_only (suc (suc (suc zero))) (negsuc n) given h = absurd (cc)
numbers_only (suc (suc (suc (suc n)))) index given h = absurd (cc)

complete : (object : ℕ) (class name : Name) → class_of of_two_arrays.heap object ≡ Some class
    → IsSome (field_kind program class name) → IsSome (value_at of_two_arrays.heap (Field object name))
complete zero class name hc hk = absurd (cc)
complete (suc zero) class name hc hk =
    let e : class ≡ first_class = cc in
    let k : IsSome (field_kind program first_class name) = subst (λ (c : Name). IsSome (field_kind program c name)) e hk in
    absurd (cc)
complete (suc (suc zero)) class name hc hk = absurd (cc)
complete (suc (suc (suc zero))) class name hc hk = absurd (cc)
complete (suc (suc (suc (suc n)))) class name hc hk = absurd (cc)

-- no array is both
apart : (b : ℕ) (t x y : Bool) → nat_eq 2 b ≡ x → nat_eq 3 b ≡ y
    → (if x && t then whole else 0) + (if y && t then whole else 0) ≤ whole
apart b t true true e f = absurd (omega (arith, eqb-true 2 b e, eqb-true 3 b f))
apart b true true false e f = omega arith
apart b false true false e f = omega arith
apart b true false true e f = omega arith
apart b false false true e f = omega arith
apart b t false false e f = omega arith

two_fit : (spot : Location) → units_in (only_now (heap_of of_two_arrays.heap))
    (outer_scene 1 both_method.parameters of_two_arrays.arguments) spot both_method.contract.before ≤ whole
two_fit (Field o name) = omega arith
two_fit (Cell b j) = apart b (same_number (pos 0) j) (nat_eq 2 b) (nat_eq 3 b) refl refl

pub two_start : IsStart program of_two_arrays
two_start = record {
  typed = record { fields = no_fields; elements = λ array. inl (numbers_only array); complete = complete };
  object = refl;
  name = both;
  declared = refl;
  arguments = ((refl, numbers_only 2), ((refl, numbers_only 3), tt));
  plain = refl;
  met = refl;
  fit = two_fit;
}

pub shared_refused : IsStart program of_one_array → ⊥
shared_refused s = let h : whole + whole ≤ whole = s.fit (Cell 2 (pos 0)) in absurd (omega arith)

pub unmet_refused : IsStart program of_another_number → ⊥
unmet_refused s = let e : FirstUnmet nowhere ≡ AllMet = s.met in absurd (cc)
