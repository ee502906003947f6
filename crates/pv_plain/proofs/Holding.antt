-- Members and elements are looked up by what holds them, and a permission asks for a type where a field stands.
use Rattle.std.proofs.Common.{◌≡◌, ℕ, Bool, true, false, ◌&&◌, Option, Some, None, refl, sym, ◌∙◌, ap, if◌then◌else◌}
use Rattle.pv_base.specs.declared.Name.{Name}
use Rattle.pv_base.specs.declared.Span.{Span}
use Rattle.pv_ast.specs.declared.Operator.{Operator}
use Rattle.pv_ast.specs.declared.Operator.TheVariants as op
use Rattle.pv_ast.specs.declared.PvType.TheVariants as pv
use Rattle.pv_ast.specs.declared.standing.Need.TheVariants.{AnArray}
use Rattle.pv_ast.specs.declared.standing.Seen.{Seen}
use Rattle.pv_ast.specs.declared.standing.Typing.{Typing}
use Rattle.pv_ast.specs.declared.standing.Typing.TheVariants.{Unsettled, Untyped, Typed}
use Rattle.pv_ast.specs.Rules.Typing.{meets, is_array}
use Rattle.pv_ast.specs.Rules.Expressions.{Environment, is_array_length, is_length, holder_of, holder_of_typing, holder_of_type, typing_of_member, typing_of_field_in}
use Rattle.pv_picks.specs.Plain.Core.{Expression}
use Rattle.pv_picks.specs.Plain.Core as core
use Rattle.pv_picks.specs.Elaborating.Names.{class_at, class_of_type, elements_of, element_type, settled}
use Rattle.pv_picks.specs.Elaborating.Operations.{operation, negation, permission}
use Rattle.pv_plain.specs.Held.{held, IsHeldAs, IsPlaceOf}

array_held : (t : Typing) → meets AnArray t ≡ is_array (held t)
array_held Unsettled = refl
array_held Untyped = refl
array_held (Typed pv.Int) = refl
array_held (Typed pv.Truth) = refl
array_held (Typed (pv.Object c)) = refl
array_held (Typed pv.IntArray) = refl
array_held (Typed pv.TruthArray) = refl
array_held (Typed pv.Null) = refl

class_held : (t : Typing) → class_at t ≡ class_of_type (held t)
class_held Unsettled = refl
class_held Untyped = refl
class_held (Typed pv.Int) = refl
class_held (Typed pv.Truth) = refl
class_held (Typed (pv.Object c)) = refl
class_held (Typed pv.IntArray) = refl
class_held (Typed pv.TruthArray) = refl
class_held (Typed pv.Null) = refl

elements_held : (t : Typing) → elements_of t ≡ element_type (held t)
elements_held Unsettled = refl
elements_held Untyped = refl
elements_held (Typed pv.Int) = refl
elements_held (Typed pv.Truth) = refl
elements_held (Typed (pv.Object c)) = refl
elements_held (Typed pv.IntArray) = refl
elements_held (Typed pv.TruthArray) = refl
elements_held (Typed pv.Null) = refl

holder_held : (a : Environment) (this : Bool) (t : Typing) → holder_of_typing a this t ≡ holder_of_type a this (held t)
holder_held a this Unsettled = refl
holder_held a this Untyped = refl
holder_held a this (Typed pv.Int) = refl
holder_held a this (Typed pv.Truth) = refl
holder_held a this (Typed (pv.Object c)) = refl
holder_held a this (Typed pv.IntArray) = refl
holder_held a this (Typed pv.TruthArray) = refl
holder_held a this (Typed pv.Null) = refl

-- both are arrays, of objects of one class, of elements of one type, and have the same members

pub same_length : (a : Environment) (name : Name) (s t : Seen) → IsHeldAs s t
    → is_array_length a name s.typing ≡ is_array_length a name t.typing
same_length a name s t h =
    ap (λ b. b && is_length a name) (array_held s.typing ∙ ap is_array h.kind ∙ sym (array_held t.typing))

pub same_class : (s t : Seen) → IsHeldAs s t → class_at s.typing ≡ class_at t.typing
same_class s t h = class_held s.typing ∙ ap class_of_type h.kind ∙ sym (class_held t.typing)

pub same_elements : (s t : Seen) → IsHeldAs s t → elements_of s.typing ≡ elements_of t.typing
same_elements s t h = elements_held s.typing ∙ ap element_type h.kind ∙ sym (elements_held t.typing)

same_holder : (a : Environment) (s t : Seen) → IsHeldAs s t → holder_of a s ≡ holder_of a t
same_holder a s t h =
    holder_held a s.this s.typing ∙ ap (λ b. holder_of_type a b (held s.typing)) h.this ∙ ap (holder_of_type a t.this) h.kind
    ∙ sym (holder_held a t.this t.typing)

pub same_member : (a : Environment) (name : Name) (s t : Seen) → IsHeldAs s t
    → typing_of_member a name s ≡ typing_of_member a name t
same_member a name s t h =
    ap (λ b. if b then Typed pv.Int else typing_of_field_in (holder_of a s) name) (same_length a name s t h)
    ∙ ap (λ x. if is_array_length a name t.typing then Typed pv.Int else typing_of_field_in x name) (same_holder a s t h)

-- Places

abbrev pub is_field : Expression → Bool
is_field (core.Field object class name span) = true
is_field _ = false

-- what is no field asks for no type
pub free : (s t : Typing) (x : Expression) → is_field x ≡ false → IsPlaceOf s t x
free s t (core.Field object class name span) h = absurd cc
free s t (core.Constant v) h = λ units span. refl
free s t core.This h = λ units span. refl
free s t core.Result h = λ units span. refl
free s t (core.Variable n) h = λ units span. refl
free s t (core.Element type array index at) h = λ units span. refl
free s t (core.Length type array at) h = λ units span. refl
free s t (core.Not x) h = λ units span. refl
free s t (core.Compute m o x y at) h = λ units span. refl
free s t (core.Compare c x y) h = λ units span. refl
free s t (core.Equal b x y) h = λ units span. refl
free s t (core.And x y) h = λ units span. refl
free s t (core.Or x y) h = λ units span. refl
free s t (core.Implies x y) h = λ units span. refl
free s t (core.Old x) h = λ units span. refl

-- the same of what is equal to it
pub free_at : (s t : Typing) (x y : Expression) → x ≡ y → is_field y ≡ false → IsPlaceOf s t x
free_at s t x y e h = free s t x (ap is_field e ∙ h)

pub operation_free : (o : Operator) (span : Span) (x y : Expression) → is_field (operation o span x y) ≡ false
operation_free op.Add span x y = refl
operation_free op.Sub span x y = refl
operation_free op.Mul span x y = refl
operation_free op.Eq span x y = refl
operation_free op.Ne span x y = refl
operation_free op.Lt span x y = refl
operation_free op.Le span x y = refl
operation_free op.Gt span x y = refl
operation_free op.Ge span x y = refl
operation_free op.And span x y = refl
operation_free op.Or span x y = refl
operation_free op.Implies span x y = refl
operation_free op.Star span x y = refl

pub negation_free : (n : Option ℕ) (span : Span) (x : Expression) → is_field (negation n span x) ≡ false
negation_free None span x = refl
negation_free (Some n) span x = refl

-- types that are the same serve the same places
pub same_place : (s t : Typing) (x : Expression) → s ≡ t → IsPlaceOf s t x
same_place s t x e = λ units span. ap (λ y. permission (settled y) units span x) e
