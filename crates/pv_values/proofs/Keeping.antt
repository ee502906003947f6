-- A write keeps a heap well typed.
use Rattle.std.proofs.Common.{◌≡◌, ◌⊎◌, inl, inr, ℕ, zero, suc, ℤ, Bool, true, false, ◌&&◌, cond, Option, Some, None, IsSome, is_some, nat_eq, refl, sym, subst, ◌∙◌, ap}
use Rattle.pv_values.proofs.Comparisons.{name_same}
use Rattle.std.proofs.lemmas.Option.{same_Some}
use Rattle.std.proofs.lemmas.Bool.{eqb-true}
use Rattle.pv_base.specs.declared.Name.{Name}
use Rattle.pv_values.specs.declared.value.Value.{Value}
use Rattle.pv_values.specs.declared.value.Value.TheVariants.{Number, Truth, Reference}
use Rattle.pv_values.specs.declared.value.Location.{Location}
use Rattle.pv_values.specs.declared.value.Location.TheVariants.{Field, Cell}
use Rattle.pv_values.specs.Heaps.{Things, value_at, class_of, same_number, same_location}
use Rattle.pv_base.specs.Names.{same_name}
use Rattle.pv_values.specs.Changes.{IsWritten}
use Rattle.pv_values.specs.Typing.{Kind, numbers, truths, objects, int_arrays, truth_arrays, nulls, is_number, is_truth, HoldsOnly, IsArrayOf, Refers, HasKindOf, FitsAt, IsWellTyped}

first_of_both : (a b : Bool) → (a && b) ≡ true → a ≡ true
first_of_both true b h = refl
first_of_both false b h = h

second_of_both : (a b : Bool) → (a && b) ≡ true → b ≡ true
second_of_both true b h = h
second_of_both false b h = cc

-- what is read after a write is what was written, or what was read before
read_by : (b : Bool) (value v : Value) (before : Option Value) (P : Type 0) → cond b (Some value) before ≡ Some v
    → (b ≡ true → value ≡ v → P) → (before ≡ Some v → P) → P
read_by true value v before P e f g = f refl (same_Some value v e)
read_by false value v before P e f g = g e

holds_value : (test : Value → Bool) (a b : Value) → a ≡ b → test a ≡ true → test b ≡ true
holds_value test a b e h = ap test (sym e) ∙ h

-- an array whose elements pass a test, once a value that passes it was written
array_kept : (test : Value → Bool) (old new : Things) (location : Location) (value : Value) (array : ℕ)
    → IsWritten location value old new
    → ((b : ℕ) (j : ℤ) → location ≡ Cell b j → array ≡ b → test value ≡ true) → HoldsOnly test old array
    → HoldsOnly test new array
array_kept test old new (Field object name) value array w fits h index v e = h index v (sym (w.reads (Cell array index)) ∙ e)
array_kept test old new (Cell b j) value array w fits h index v e =
    read_by (same_location (Cell array index) (Cell b j)) value v (value_at old (Cell array index)) (test v ≡ true)
    (sym (w.reads (Cell array index)) ∙ e)
    (λ t k. holds_value test value v k
    (fits b j refl (eqb-true array b (first_of_both (nat_eq array b) (same_number index j) t))))
    (h index v)

-- no value is a number and a truth value
not_both : (v : Value) → is_number v ≡ true → is_truth v ≡ true → ⊥
not_both (Number z) p q = cc
not_both (Truth b) p q = cc
not_both (Reference n) p q = cc

found : (o : Option Value) → IsSome o → (v : Value) × (o ≡ Some v)
found None h = absurd cc
found (Some v) h = (v, refl)

-- a value that fits passes each test that the elements of the array pass
number_fits : (kinds : Name → Name → Option Kind) (old : Things) (b : ℕ) (j : ℤ) (value : Value)
    → IsSome (value_at old (Cell b j)) → FitsAt kinds old (Cell b j) value
    → HoldsOnly is_number old b → is_number value ≡ true
number_fits kinds old b j value there (inl p) h = p.1
number_fits kinds old b j value there (inr p) h =
    let v = found (value_at old (Cell b j)) there in absurd (not_both v.0 (h j v.0 v.1) (p.0 j v.0 v.1))

truth_fits : (kinds : Name → Name → Option Kind) (old : Things) (b : ℕ) (j : ℤ) (value : Value) → IsSome (value_at old (Cell b j))
    → FitsAt kinds old (Cell b j) value
    → HoldsOnly is_truth old b → is_truth value ≡ true
truth_fits kinds old b j value there (inr p) h = p.1
truth_fits kinds old b j value there (inl p) h =
    let v = found (value_at old (Cell b j)) there in absurd (not_both v.0 (p.0 j v.0 v.1) (h j v.0 v.1))

module _ (kinds : Name → Name → Option Kind) (old new : Things) (location : Location) (value : Value)
    (there : IsSome (value_at old location)) (fits : FitsAt kinds old location value) (w : IsWritten location value old new) where
  numbers_kept : (array : ℕ) → HoldsOnly is_number old array → HoldsOnly is_number new array
  numbers_kept array h =
      array_kept is_number old new location value array w
      (λ b j e k. number_fits kinds old b j value (subst (λ l. IsSome (value_at old l)) e there)
      (subst (λ l. FitsAt kinds old l value) e fits) (subst (λ n. HoldsOnly is_number old n) k h)) h

  truths_kept : (array : ℕ) → HoldsOnly is_truth old array → HoldsOnly is_truth new array
  truths_kept array h =
      array_kept is_truth old new location value array w
      (λ b j e k. truth_fits kinds old b j value (subst (λ l. IsSome (value_at old l)) e there)
      (subst (λ l. FitsAt kinds old l value) e fits) (subst (λ n. HoldsOnly is_truth old n) k h)) h

  refers_kept : (P Q : ℕ → Type 0) (v : Value) → ((n : ℕ) → P n → Q n) → Refers P v → Refers Q v
  refers_kept P Q (Number z) f h = h
  refers_kept P Q (Truth b) f h = h
  refers_kept P Q (Reference zero) f h = h
  refers_kept P Q (Reference (suc n)) f h = f (suc n) h

  kind_kept : (kind : Option Kind) (v : Value) → HasKindOf old kind v → HasKindOf new kind v
  kind_kept None v h = h
  kind_kept (Some numbers) v h = h
  kind_kept (Some truths) v h = h
  kind_kept (Some (objects class)) v h =
      refers_kept (λ n. class_of old n ≡ Some class) (λ n. class_of new n ≡ Some class) v (λ n e. w.classes n ∙ e) h
  kind_kept (Some int_arrays) v h =
      refers_kept (IsArrayOf is_number old) (IsArrayOf is_number new) v
      (λ n p. (ap is_some (w.lengths n) ∙ p.0, numbers_kept n p.1)) h
  kind_kept (Some truth_arrays) v h =
      refers_kept (IsArrayOf is_truth old) (IsArrayOf is_truth new) v
      (λ n p. (ap is_some (w.lengths n) ∙ p.0, truths_kept n p.1)) h
  kind_kept (Some nulls) v h = h

  elements_kept : (array : ℕ) → HoldsOnly is_number old array ⊎ HoldsOnly is_truth old array
      → HoldsOnly is_number new array ⊎ HoldsOnly is_truth new array
  elements_kept array (inl h) = inl (numbers_kept array h)
  elements_kept array (inr h) = inr (truths_kept array h)

-- the field of the write, or another one
field_kept : (kinds : Name → Name → Option Kind) (old new : Things) (location : Location) (value : Value) (object : ℕ)
    (class name : Name) (v : Value)
    → IsWellTyped kinds old → FitsAt kinds old location value → IsWritten location value old new
    → class_of old object ≡ Some class
    → value_at new (Field object name) ≡ Some v → HasKindOf old (kinds class name) v
field_kept kinds old new (Cell b j) value object class name v typed fits w c e =
    typed.fields object class name v c (sym (w.reads (Field object name)) ∙ e)
field_kept kinds old new (Field b f) value object class name v typed fits w c e =
    read_by (same_location (Field object name) (Field b f)) value v (value_at old (Field object name))
    (HasKindOf old (kinds class name) v) (sym (w.reads (Field object name)) ∙ e)
    (λ t k. let at : object ≡ b = eqb-true object b (first_of_both (nat_eq object b) (same_name name f) t) in
    let named : name ≡ f = name_same name f (second_of_both (nat_eq object b) (same_name name f) t) in
    subst (λ x. HasKindOf old (kinds class name) x) k
    (subst (λ x. HasKindOf old (kinds class x) value) (sym named) (fits class (ap (class_of old) (sym at) ∙ c))))
    (typed.fields object class name v c)

some_by : (b : Bool) (value : Value) (o : Option Value) → IsSome o → IsSome (cond b (Some value) o)
some_by true value o h = refl
some_by false value o h = h

pub write_keeps : (kinds : Name → Name → Option Kind) (old new : Things) (location : Location) (value : Value)
    → IsWellTyped kinds old → IsSome (value_at old location)
    → FitsAt kinds old location value → IsWritten location value old new → IsWellTyped kinds new
write_keeps kinds old new location value typed there fits w = record {
  fields = λ object class name v c e.
      kind_kept kinds old new location value there fits w (kinds class name) v
      (field_kept kinds old new location value object class name v typed fits w (sym (w.classes object) ∙ c) e);
  elements = λ array. elements_kept kinds old new location value there fits w array (typed.elements array);
  complete = λ object class name c h.
      ap is_some (w.reads (Field object name))
      ∙ some_by (same_location (Field object name) location) value (value_at old (Field object name))
      (typed.complete object class name (sym (w.classes object) ∙ c) h);
}
