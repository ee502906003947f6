-- What a well typed heap refers to stands in it.
use Rattle.std.proofs.Common.{◌≡◌, ◌≢◌, ◌⊎◌, inl, inr, ℕ, zero, suc, ◌≤◌, ℤ, Bool, true, length, slice_get, Option, Some, None, is_some, refl, sym, ◌∙◌, ap, arith}
use Rattle.std.proofs.lemmas.Option.{none-some, slice_get_within}
use Rattle.pv_base.specs.declared.Name.{Name}
use Rattle.pv_values.specs.declared.value.Value.{Value}
use Rattle.pv_values.specs.declared.value.Value.TheVariants.{Reference}
use Rattle.pv_values.specs.declared.value.Location.TheVariants.{Field, Cell}
use Rattle.pv_values.specs.declared.thing.Thing.{Thing}
use Rattle.pv_values.specs.declared.thing.Thing.TheVariants.{Object, Array}
use Rattle.pv_values.specs.Heaps.{Things, thing_at, value_at, class_of, count_of, field_in, class_in, length_in}
use Rattle.pv_values.specs.Typing.{Kind, numbers, truths, objects, int_arrays, truth_arrays, nulls, is_number, is_truth, HoldsOnly, IsArrayOf, Refers, HasKindOf, IsWellTyped}

-- what has a field is an object
class_there : (t : Option Thing) (name : Name) (value : Value) → field_in t name ≡ Some value
    → (class : Name) × (class_in t ≡ Some class)
class_there None name value e = absurd (none-some value e)
class_there (Some (Object class fields)) name value e = (class, refl)
class_there (Some (Array elements)) name value e = absurd (none-some value e)

found_within : (heap : Things) (n : ℕ) (t : Option Thing) → slice_get heap n ≡ t → t ≢ None → suc n ≤ length heap
found_within heap n None e there = absurd (there refl)
found_within heap n (Some t) e there = slice_get_within heap n t e

class_within : (heap : Things) (n : ℕ) (class : Name) → class_of heap (suc n) ≡ Some class → suc n ≤ length heap
class_within heap n class h = found_within heap n (slice_get heap n) refl (λ e. none-some class (ap class_in (sym e) ∙ h))

array_within : (test : Value → Bool) (heap : Things) (n : ℕ) → IsArrayOf test heap (suc n) → suc n ≤ length heap
array_within test heap n h =
    found_within heap n (slice_get heap n) refl
    (λ e. let k : is_some (length_in None) ≡ true = ap (λ t. is_some (length_in t)) (sym e) ∙ h.0 in cc)

refers_within : (P : ℕ → Type 0) (heap : Things) (n : ℕ) → ((m : ℕ) → P (suc m) → suc m ≤ length heap) → Refers P (Reference n)
    → n ≤ length heap
refers_within P heap zero f h = omega arith
refers_within P heap (suc n) f h = f n h

kind_within : (heap : Things) (kind : Option Kind) (n : ℕ) → HasKindOf heap kind (Reference n) → n ≤ length heap
kind_within heap None n h = absurd h
kind_within heap (Some numbers) n h = absurd cc
kind_within heap (Some truths) n h = absurd cc
kind_within heap (Some (objects class)) n h =
    refers_within (λ m. class_of heap m ≡ Some class) heap n (λ m k. class_within heap m class k) h
kind_within heap (Some int_arrays) n h = refers_within (IsArrayOf is_number heap) heap n (array_within is_number heap) h
kind_within heap (Some truth_arrays) n h = refers_within (IsArrayOf is_truth heap) heap n (array_within is_truth heap) h
kind_within heap (Some nulls) n h = refers_within (λ m. ⊥) heap n (λ m k. absurd k) h

pub reference_within : (kinds : Name → Name → Option Kind) (heap : Things) (object n : ℕ) (name : Name) → IsWellTyped kinds heap
    → value_at heap (Field object name) ≡ Some (Reference n) → n ≤ count_of heap
reference_within kinds heap object n name typed e =
    let there = class_there (thing_at heap object) name (Reference n) e in
    kind_within heap (kinds there.0 name) n (typed.fields object there.0 name (Reference n) there.1 e)

either_plain : (heap : Things) (array n : ℕ) (index : ℤ) → HoldsOnly is_number heap array ⊎ HoldsOnly is_truth heap array
    → value_at heap (Cell array index) ≢ Some (Reference n)
either_plain heap array n index (inl h) e = let k : is_number (Reference n) ≡ true = h index (Reference n) e in cc
either_plain heap array n index (inr h) e = let k : is_truth (Reference n) ≡ true = h index (Reference n) e in cc

pub elements_plain : (kinds : Name → Name → Option Kind) (heap : Things) (array n : ℕ) (index : ℤ) → IsWellTyped kinds heap
    → value_at heap (Cell array index) ≢ Some (Reference n)
elements_plain kinds heap array n index typed = either_plain heap array n index (typed.elements array)
