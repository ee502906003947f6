-- Which type is wanted where a part has one.
use Rattle.std.proofs.Common.{◌≡◌, Bool, true, false, ◌||◌, List, refl, sym, ◌∙◌, ap, inl, inr}
use Rattle.std.specs.Prelude.{IsTrue, nat_eq, if◌then◌else◌}
use Rattle.std.proofs.lemmas.Bool.{eq-eqb, and_left, or_left}
use Rattle.pv_base.specs.declared.Name.{Name}
use Rattle.pv_ast.specs.declared.PvType.{PvType}
use Rattle.pv_ast.specs.declared.PvType.TheVariants.{Int, Truth, Object, IntArray, TruthArray, Null}
use Rattle.pv_ast.specs.declared.Class.{Class}
use Rattle.pv_ast.specs.declared.standing.Need.TheVariants.{Exactly, AnObject, AnArray}
use Rattle.pv_ast.specs.declared.standing.Typing.{Typing}
use Rattle.pv_ast.specs.declared.standing.Typing.TheVariants.{Unsettled, Untyped, Typed}
use Rattle.pv_ast.specs.Rules.Lookup.{is_declared_type}
use Rattle.pv_ast.specs.Rules.Typing.{is_int, is_truth, is_int_array, is_truth_array, is_null, same_type, fits, meets, typed_if, typing_of_equality, typing_of_element}
use Rattle.pv_picks.specs.Formulas.Values.{array_of}
use Rattle.pv_picks.specs.Elaborating.Names.{class_at, elements_of}
use Rattle.pv_picks.specs.Typing.Expressions.{is_reference, IsElement, IsDeclared}
use Rattle.core_trees.proofs.Shapes.{equal_names}

left_only : (a b : Bool) → b ≡ false → (a || b) ≡ true → a ≡ true
left_only true b k h = refl
left_only false b k h = let no : false ≡ true = sym k ∙ h in cc

-- The same type

int : (type : PvType) → is_int type ≡ true → Int ≡ type
int Int h = refl
int Truth h = absurd cc
int (Object c) h = absurd cc
int IntArray h = absurd cc
int TruthArray h = absurd cc
int Null h = absurd cc

truth : (type : PvType) → is_truth type ≡ true → Truth ≡ type
truth Int h = absurd cc
truth Truth h = refl
truth (Object c) h = absurd cc
truth IntArray h = absurd cc
truth TruthArray h = absurd cc
truth Null h = absurd cc

int_array : (type : PvType) → is_int_array type ≡ true → IntArray ≡ type
int_array Int h = absurd cc
int_array Truth h = absurd cc
int_array (Object c) h = absurd cc
int_array IntArray h = refl
int_array TruthArray h = absurd cc
int_array Null h = absurd cc

truth_array : (type : PvType) → is_truth_array type ≡ true → TruthArray ≡ type
truth_array Int h = absurd cc
truth_array Truth h = absurd cc
truth_array (Object c) h = absurd cc
truth_array IntArray h = absurd cc
truth_array TruthArray h = refl
truth_array Null h = absurd cc

null : (type : PvType) → is_null type ≡ true → Null ≡ type
null Int h = absurd cc
null Truth h = absurd cc
null (Object c) h = absurd cc
null IntArray h = absurd cc
null TruthArray h = absurd cc
null Null h = refl

object : (class : Name) (type : PvType) → same_type (Object class) type ≡ true → Object class ≡ type
object class (Object c) h = ap Object (equal_names class c h)
object class Int h = absurd cc
object class Truth h = absurd cc
object class IntArray h = absurd cc
object class TruthArray h = absurd cc
object class Null h = absurd cc

same : (a b : PvType) → same_type a b ≡ true → a ≡ b
same Int b h = int b h
same Truth b h = truth b h
same (Object class) b h = object class b h
same IntArray b h = int_array b h
same TruthArray b h = truth_array b h
same Null b h = null b h

-- What is wanted where a type is

-- a type other than that of null is wanted as itself alone
pub exact : (need type : PvType) → is_null type ≡ false → fits need type ≡ true → need ≡ type
exact need type n h = same need type (left_only (same_type need type) _ (and_left (is_null type) _ n) h)

pub null_wanted : (need : PvType) → fits need Null ≡ true → IsTrue (is_reference need)
null_wanted Int h = absurd cc
null_wanted Truth h = absurd cc
null_wanted (Object c) h = refl
null_wanted IntArray h = refl
null_wanted TruthArray h = refl
null_wanted Null h = refl

pub itself : (type : PvType) → fits type type ≡ true
itself Int = refl
itself Truth = refl
itself (Object class) = or_left (nat_eq class.0 class.0) _ (eq-eqb class.0 class.0 refl)
itself IntArray = refl
itself TruthArray = refl
itself Null = refl

-- the type of null is none that a declaration may have
pub not_null : (classes : List Class) (type : PvType) → is_declared_type classes type ≡ true → is_null type ≡ false
not_null classes Int h = refl
not_null classes Truth h = refl
not_null classes (Object c) h = refl
not_null classes IntArray h = refl
not_null classes TruthArray h = refl
not_null classes Null h = absurd cc

pub declared_type : (classes : List Class) (type : PvType) → is_declared_type classes type ≡ true → IsDeclared type
declared_type classes Int h = tt
declared_type classes Truth h = tt
declared_type classes (Object c) h = tt
declared_type classes IntArray h = tt
declared_type classes TruthArray h = tt
declared_type classes Null h = absurd cc

pub wanted : (need : PvType) (t : Typing) → meets (Exactly need) t ≡ true → (type : PvType) × (t ≡ Typed type)
    × (fits need type ≡ true)
wanted need Unsettled h = absurd cc
wanted need Untyped h = absurd cc
wanted need (Typed type) h = (type, refl, h)

-- Parts of operations

pub typed_if_wanted : (b : Bool) (type need : PvType) → is_null type ≡ false → meets (Exactly need) (typed_if b type) ≡ true
    → (b ≡ true) × (need ≡ type)
typed_if_wanted true type need n h = (refl, exact need type n h)
typed_if_wanted false type need n h = absurd cc

pub record Comparable (x y : Typing) (need : PvType) : Type 0 where
  pub type : PvType
  pub left : meets (Exactly type) x ≡ true
  pub right : meets (Exactly type) y ≡ true
  pub truth : need ≡ Truth

comparable : (a b need : PvType) (f g : Bool) → fits a b ≡ f → fits b a ≡ g
    → meets (Exactly need) (if f || g then Typed Truth else Untyped) ≡ true → Comparable (Typed a) (Typed b) need
comparable a b need true g l r h = record { type = a; left = itself a; right = l; truth = exact need Truth refl h }
comparable a b need false true l r h = record { type = b; left = r; right = itself b; truth = exact need Truth refl h }
comparable a b need false false l r h = absurd cc

pub equality_wanted : (x y : Typing) (need : PvType) → meets (Exactly need) (typing_of_equality x y) ≡ true → Comparable x y need
equality_wanted (Typed a) (Typed b) need h = comparable a b need (fits a b) (fits b a) refl refl h
equality_wanted (Typed a) Unsettled need h = absurd cc
equality_wanted (Typed a) Untyped need h = absurd cc
equality_wanted Unsettled y need h = absurd cc
equality_wanted Untyped y need h = absurd cc

-- an array, and its elements
abbrev pub IsArray : Typing → Type 0
IsArray t = IsElement (elements_of t) × (meets (Exactly (array_of (elements_of t))) t ≡ true)

pub array_wanted : (t : Typing) → meets AnArray t ≡ true → IsArray t
array_wanted (Typed IntArray) h = (inl refl, refl)
array_wanted (Typed TruthArray) h = (inr refl, refl)
array_wanted (Typed Int) h = absurd cc
array_wanted (Typed Truth) h = absurd cc
array_wanted (Typed (Object c)) h = absurd cc
array_wanted (Typed Null) h = absurd cc
array_wanted Unsettled h = absurd cc
array_wanted Untyped h = absurd cc

pub element_wanted : (t i : Typing) (need : PvType) → meets (Exactly need) (typing_of_element t i) ≡ true → IsArray t
    × (meets (Exactly Int) i ≡ true) × (need ≡ elements_of t)
element_wanted (Typed IntArray) i need h =
    let k = typed_if_wanted (meets (Exactly Int) i) Int need refl h in ((inl refl, refl), k.0, k.1)
element_wanted (Typed TruthArray) i need h =
    let k = typed_if_wanted (meets (Exactly Int) i) Truth need refl h in ((inr refl, refl), k.0, k.1)
element_wanted (Typed Int) i need h = absurd cc
element_wanted (Typed Truth) i need h = absurd cc
element_wanted (Typed (Object c)) i need h = absurd cc
element_wanted (Typed Null) i need h = absurd cc
element_wanted Unsettled i need h = absurd cc
element_wanted Untyped i need h = absurd cc

pub object_wanted : (t : Typing) → meets AnObject t ≡ true → meets (Exactly (Object (class_at t))) t ≡ true
object_wanted (Typed (Object class)) h = itself (Object class)
object_wanted (Typed Int) h = absurd cc
object_wanted (Typed Truth) h = absurd cc
object_wanted (Typed IntArray) h = absurd cc
object_wanted (Typed TruthArray) h = absurd cc
object_wanted (Typed Null) h = absurd cc
object_wanted Unsettled h = absurd cc
object_wanted Untyped h = absurd cc
