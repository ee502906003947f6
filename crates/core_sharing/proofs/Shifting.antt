-- The forms of an index that is a position with so much added.
use Rattle.std.proofs.Common.{◌≡◌, ◌⊎◌, inl, inr, ℤ, pos, ◌+ℤ◌, ◌-ℤ◌, Bool, true, false, Option, Some, None, refl, sym, ◌∙◌, ap}
use Rattle.std.proofs.Math.IntN.{neg_ℤ, +ℤ_idl, +ℤ_idr}
use Rattle.std.proofs.lemmas.Option.{same_Some}
use Rattle.std.specs.Prelude.{nat_eq, if◌then◌else◌}
use Rattle.pv_base.specs.declared.Name.{Name}
use Rattle.pv_base.specs.declared.Span.{Span}
use Rattle.pv_values.specs.declared.value.Value.TheVariants as value
use Rattle.pv_picks.specs.Plain.Core.{Expression, Operation}
use Rattle.pv_picks.specs.Plain.Core as core
use Rattle.pv_picks.specs.Formulas.Values.{arithmetic}
use Rattle.pv_picks.specs.Judge.Repetitions.{is_position, constant_in, shift_by, shift_if}
use Rattle.pv_picks.specs.Elaborating.Operations as operations
use Rattle.core_sharing.specs.Forms.{IsShifted}
use Rattle.core_trees.proofs.Shapes.{equal_names}

-- the position itself, and a sum or difference of it and a number
pub record IsSum (name : Name) (s : ℤ) (e : Expression) : Type 0 where
  pub operation : Operation
  pub number : ℤ
  pub span : Span
  pub is : e ≡ core.Compute core.Plain operation (core.Variable name) (core.Constant (value.Number number)) span
  pub shift : shift_by operation number ≡ Some s

abbrev pub Forms : Name → ℤ → Expression → Type 0
Forms name s e = ((e ≡ core.Variable name) × (s ≡ pos 0)) ⊎ IsSum name s e

-- a position and a number by what is asked of them

position_is : (name : Name) (e : Expression) → is_position name e ≡ true → e ≡ core.Variable name
position_is name (core.Variable x) is = ap core.Variable (sym (equal_names name x is))
position_is name (core.Constant v) is = absurd cc
position_is name core.This is = absurd cc
position_is name core.Result is = absurd cc
position_is name (core.Field e class field span) is = absurd cc
position_is name (core.Element type x i span) is = absurd cc
position_is name (core.Length type x span) is = absurd cc
position_is name (core.Not e) is = absurd cc
position_is name (core.Compute m o x y span) is = absurd cc
position_is name (core.Compare c x y) is = absurd cc
position_is name (core.Equal b x y) is = absurd cc
position_is name (core.And x y) is = absurd cc
position_is name (core.Or x y) is = absurd cc
position_is name (core.Implies x y) is = absurd cc
position_is name (core.Old e) is = absurd cc

-- the same of the test that makes guards
pub place_is : (name : Name) (e : Expression) → operations.is_position name e ≡ true → e ≡ core.Variable name
place_is name (core.Variable x) is = ap core.Variable (sym (equal_names name x is))
place_is name (core.Constant v) is = absurd cc
place_is name core.This is = absurd cc
place_is name core.Result is = absurd cc
place_is name (core.Field e class field span) is = absurd cc
place_is name (core.Element type x i span) is = absurd cc
place_is name (core.Length type x span) is = absurd cc
place_is name (core.Not e) is = absurd cc
place_is name (core.Compute m o x y span) is = absurd cc
place_is name (core.Compare c x y) is = absurd cc
place_is name (core.Equal b x y) is = absurd cc
place_is name (core.And x y) is = absurd cc
place_is name (core.Or x y) is = absurd cc
place_is name (core.Implies x y) is = absurd cc
place_is name (core.Old e) is = absurd cc

number_is : (e : Expression) (z : ℤ) → constant_in e ≡ Some z → e ≡ core.Constant (value.Number z)
number_is (core.Constant (value.Number n)) z is = ap (λ i. core.Constant (value.Number i)) (same_Some n z is)
number_is (core.Constant (value.Truth b)) z is = absurd cc
number_is (core.Constant (value.Reference r)) z is = absurd cc
number_is core.This z is = absurd cc
number_is core.Result z is = absurd cc
number_is (core.Variable x) z is = absurd cc
number_is (core.Field e class field span) z is = absurd cc
number_is (core.Element type x i span) z is = absurd cc
number_is (core.Length type x span) z is = absurd cc
number_is (core.Not e) z is = absurd cc
number_is (core.Compute m o x y span) z is = absurd cc
number_is (core.Compare c x y) z is = absurd cc
number_is (core.Equal b x y) z is = absurd cc
number_is (core.And x y) z is = absurd cc
number_is (core.Or x y) z is = absurd cc
number_is (core.Implies x y) z is = absurd cc
number_is (core.Old e) z is = absurd cc

variable_if : (name x : Name) (s : ℤ) (b : Bool) → nat_eq name.0 x.0 ≡ b → (if b then Some (pos 0) else None) ≡ Some s
    → Forms name s (core.Variable x)
variable_if name x s true same is = inl (ap core.Variable (sym (equal_names name x same)), sym (same_Some (pos 0) s is))
variable_if name x s false same is = absurd cc

sum_if : (name : Name) (s : ℤ) (o : Operation) (x y : Expression) (span : Span) (b : Bool) (n : Option ℤ)
    → is_position name x ≡ b → constant_in y ≡ n → shift_if b o n ≡ Some s → IsSum name s (core.Compute core.Plain o x y span)
sum_if name s o x y span true (Some z) here number is = record {
  operation = o;
  number = z;
  span = span;
  is = ap (λ e. core.Compute core.Plain o e y span) (position_is name x here)
      ∙ ap (λ e. core.Compute core.Plain o (core.Variable name) e span) (number_is y z number);
  shift = is;
}
sum_if name s o x y span true None here number is = absurd cc
sum_if name s o x y span false n here number is = absurd cc

pub shifted_is : (name : Name) (s : ℤ) (e : Expression) → IsShifted name s e → Forms name s e
shifted_is name s (core.Variable x) is = variable_if name x s (nat_eq name.0 x.0) refl is
shifted_is name s (core.Compute core.Plain o x y span) is =
    inr (sum_if name s o x y span (is_position name x) (constant_in y) refl refl is)
shifted_is name s (core.Compute core.Tabled o x y span) is = absurd cc
shifted_is name s (core.Constant v) is = absurd cc
shifted_is name s core.This is = absurd cc
shifted_is name s core.Result is = absurd cc
shifted_is name s (core.Field e class field span) is = absurd cc
shifted_is name s (core.Element type x i span) is = absurd cc
shifted_is name s (core.Length type x span) is = absurd cc
shifted_is name s (core.Not e) is = absurd cc
shifted_is name s (core.Compare c x y) is = absurd cc
shifted_is name s (core.Equal b x y) is = absurd cc
shifted_is name s (core.And x y) is = absurd cc
shifted_is name s (core.Or x y) is = absurd cc
shifted_is name s (core.Implies x y) is = absurd cc
shifted_is name s (core.Old e) is = absurd cc

pub no_shift : (a : ℤ) → a ≡ a +ℤ pos 0
no_shift a = sym (+ℤ_idr a)

-- a position with so much added
pub sum_shifted : (o : Operation) (z s position : ℤ) → shift_by o z ≡ Some s → arithmetic o position z ≡ position +ℤ s
sum_shifted core.Plus z s position is = ap (λ n. position +ℤ n) (same_Some z s is)
sum_shifted core.Minus z s position is =
    ap (λ n. position +ℤ n) (sym (+ℤ_idl (neg_ℤ z))) ∙ ap (λ n. position +ℤ n) (same_Some (pos 0 -ℤ z) s is)
sum_shifted core.Times z s position is = absurd cc
