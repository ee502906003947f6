-- References: what has the type of an object or array is read from no element, number or truth value.
use Rattle.std.proofs.Common.{◌≡◌, Bool, true, false, not, ◌||◌, refl}
use Rattle.std.proofs.lemmas.Bool.{both_ways}
use Rattle.std.specs.Prelude.{if◌then◌else◌}
use Rattle.pv_ast.specs.declared.Operator.{Operator}
use Rattle.pv_ast.specs.declared.Operator.TheVariants as op
use Rattle.pv_ast.specs.declared.PvType.{PvType}
use Rattle.pv_ast.specs.declared.PvType.TheVariants.{Int, Truth, Object, IntArray, TruthArray, Null}
use Rattle.pv_ast.specs.declared.standing.Need.TheVariants.{Exactly, AnObject, AnArray, AnObjectOrArray}
use Rattle.pv_ast.specs.declared.standing.Typing.{Typing}
use Rattle.pv_ast.specs.declared.standing.Typing.TheVariants.{Unsettled, Untyped, Typed}
use Rattle.pv_ast.specs.Rules.Typing as typing

-- objects, arrays and null
abbrev pub is_reference : Typing → Bool
is_reference Unsettled = false
is_reference Untyped = false
is_reference (Typed type) = not (typing.is_int type || typing.is_truth type)

-- What is needed of objects and arrays

object_or_array : (t : Typing) → typing.meets AnObjectOrArray t ≡ true → is_reference t ≡ true
object_or_array (Typed (Object class)) h = refl
object_or_array (Typed IntArray) h = refl
object_or_array (Typed TruthArray) h = refl
object_or_array (Typed Int) h = absurd cc
object_or_array (Typed Truth) h = absurd cc
object_or_array (Typed Null) h = absurd cc
object_or_array Unsettled h = absurd cc
object_or_array Untyped h = absurd cc

object_reference : (t : Typing) → typing.meets AnObject t ≡ true → is_reference t ≡ true
object_reference (Typed (Object class)) h = refl
object_reference (Typed IntArray) h = absurd cc
object_reference (Typed TruthArray) h = absurd cc
object_reference (Typed Int) h = absurd cc
object_reference (Typed Truth) h = absurd cc
object_reference (Typed Null) h = absurd cc
object_reference Unsettled h = absurd cc
object_reference Untyped h = absurd cc

pub array_reference : (t : Typing) → typing.meets AnArray t ≡ true → is_reference t ≡ true
array_reference (Typed IntArray) h = refl
array_reference (Typed TruthArray) h = refl
array_reference (Typed (Object class)) h = absurd cc
array_reference (Typed Int) h = absurd cc
array_reference (Typed Truth) h = absurd cc
array_reference (Typed Null) h = absurd cc
array_reference Unsettled h = absurd cc
array_reference Untyped h = absurd cc

pub target_reference : (length : Bool) (t : Typing) → typing.meets (if length then AnObjectOrArray else AnObject) t ≡ true
    → is_reference t ≡ true
target_reference true t h = object_or_array t h
target_reference false t h = object_reference t h

-- What is no reference

pub typed_no_reference : (b : Bool) (type : PvType) → is_reference (Typed type) ≡ false → is_reference (typing.typed_if b type)
    ≡ true → ⊥
typed_no_reference true type h k = both_ways (is_reference (Typed type)) h k
typed_no_reference false type h k = cc

pub element_no_reference : (x i : Typing) → is_reference (typing.typing_of_element x i) ≡ true → ⊥
element_no_reference (Typed IntArray) i h = typed_no_reference (typing.meets (Exactly Int) i) Int refl h
element_no_reference (Typed TruthArray) i h = typed_no_reference (typing.meets (Exactly Int) i) Truth refl h
element_no_reference (Typed Int) i h = cc
element_no_reference (Typed Truth) i h = cc
element_no_reference (Typed (Object class)) i h = cc
element_no_reference (Typed Null) i h = cc
element_no_reference Unsettled i h = cc
element_no_reference Untyped i h = cc

equality_no_reference : (b : Bool) → is_reference (if b then Typed Truth else Untyped) ≡ true → ⊥
equality_no_reference true h = cc
equality_no_reference false h = cc

same_no_reference : (x y : Typing) → is_reference (typing.typing_of_equality x y) ≡ true → ⊥
same_no_reference (Typed x) (Typed y) h = equality_no_reference (typing.are_comparable x y) h
same_no_reference (Typed x) Unsettled h = cc
same_no_reference (Typed x) Untyped h = cc
same_no_reference Unsettled y h = cc
same_no_reference Untyped y h = cc

pub operator_no_reference : (o : Operator) (x y : Typing) → is_reference (typing.typing_of_operator o x y) ≡ true → ⊥
operator_no_reference op.Add x y h = typed_no_reference (typing.both_meet (Exactly Int) x y) Int refl h
operator_no_reference op.Sub x y h = typed_no_reference (typing.both_meet (Exactly Int) x y) Int refl h
operator_no_reference op.Mul x y h = typed_no_reference (typing.both_meet (Exactly Int) x y) Int refl h
operator_no_reference op.Eq x y h = same_no_reference x y h
operator_no_reference op.Ne x y h = same_no_reference x y h
operator_no_reference op.Lt x y h = typed_no_reference (typing.both_meet (Exactly Int) x y) Truth refl h
operator_no_reference op.Le x y h = typed_no_reference (typing.both_meet (Exactly Int) x y) Truth refl h
operator_no_reference op.Gt x y h = typed_no_reference (typing.both_meet (Exactly Int) x y) Truth refl h
operator_no_reference op.Ge x y h = typed_no_reference (typing.both_meet (Exactly Int) x y) Truth refl h
operator_no_reference op.And x y h = typed_no_reference (typing.both_meet (Exactly Truth) x y) Truth refl h
operator_no_reference op.Or x y h = typed_no_reference (typing.both_meet (Exactly Truth) x y) Truth refl h
operator_no_reference op.Implies x y h = typed_no_reference (typing.both_meet (Exactly Truth) x y) Truth refl h
operator_no_reference op.Star x y h = typed_no_reference (typing.both_meet (Exactly Truth) x y) Truth refl h

pub old_reference : (t : Typing) → is_reference (typing.typing_of_old t) ≡ true → is_reference t ≡ true
old_reference (Typed type) h = h
old_reference Unsettled h = h
old_reference Untyped h = absurd cc
