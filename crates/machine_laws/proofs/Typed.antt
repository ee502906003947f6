-- Steps that keep to the kinds keep a heap well typed.
use Rattle.std.proofs.Common.{◌≡◌, ◌⊎◌, inl, inr, ℕ, zero, suc, ◌<◌, ℤ, pos, negsuc, Bool, true, false, cond, Option, Some, None, IsSome, is_some, List, [], ◌∷◌, length, slice_get, nat_eq, refl, sym, subst, ◌∙◌, ap, arith}
use Rattle.std.specs.Prelude.{map, option_map}
use Rattle.std.proofs.lemmas.Option.{none-some, same_Some, slice_get_within}
use Rattle.std.proofs.lemmas.Bool.{eqb-true}
use Rattle.std.proofs.lemmas.Bool.Decides.{nat_tests}
use Rattle.pv_base.specs.declared.Name.{Name}
use Rattle.pv_ast.specs.declared.PvType.{PvType}
use Rattle.pv_ast.specs.declared.PvType.TheVariants.{Int, Truth, Object, IntArray, TruthArray, Null}
use Rattle.pv_values.specs.declared.value.Value.{Value}
use Rattle.pv_values.specs.declared.value.Value.TheVariants as value
use Rattle.pv_values.specs.declared.value.Location.{Location}
use Rattle.pv_values.specs.declared.value.Location.TheVariants.{Field, Cell}
use Rattle.pv_values.specs.declared.thing.Thing.{Thing}
use Rattle.pv_values.specs.Heaps.{Things, Fields, field_value, field_in, element_in, class_in, length_in, same_number, same_location}
use Rattle.pv_base.specs.Names.{same_name}
use Rattle.pv_values.specs.Typing as typing
use Rattle.pv_values.specs.Typing.{Kind, numbers, truths, objects, int_arrays, truth_arrays, nulls, is_number, is_truth, Refers, IsWellTyped}
use Rattle.pv_picks.proofs.Sames.{front, back, names_same, numbers_same}
use Rattle.pv_picks.specs.Plain.Core.{Parameter, Program}
use Rattle.pv_picks.specs.Plain.Members.{first_that, type_in, fields_of}
use Rattle.pv_picks.specs.Formulas.Values.{default_of}
use Rattle.pv_picks.specs.Formulas.Heaps.{Heap, at_number, heap_of, written, with_object, with_array}
use Rattle.pv_picks.specs.Machine.Labels.{Label}
use Rattle.pv_picks.specs.Machine.Starts.{kind_of, field_kind}
use Rattle.pv_picks.specs.Machine.Worlds.{Mode, World, next}
use Rattle.pv_picks.specs.Machine.Steps.{Result, first_fields, act}
use Rattle.machine_laws.specs.HeapSteps.{heap_after, Finds, IsHeapStep}
use Rattle.pv_picks.specs.Typing.Heaps.{HoldsOnly, IsArrayOf, HasKind, HasKindOf, IsUnused, IsTypedHeap, FitsAt, KeepsKinds}
use Rattle.machine_laws.proofs.HeapSteps.{act-does}

-- Lists of things and the heaps that they stand for.

kind_to_heap : (things : Things) (kind : Option Kind) (v : Value) → typing.HasKindOf things kind v
    → HasKindOf (heap_of things) kind v
kind_to_heap things None v h = h
kind_to_heap things (Some numbers) v h = h
kind_to_heap things (Some truths) v h = h
kind_to_heap things (Some (objects class)) v h = h
kind_to_heap things (Some int_arrays) v h = h
kind_to_heap things (Some truth_arrays) v h = h
kind_to_heap things (Some nulls) v h = h

kind_from_heap : (things : Things) (kind : Option Kind) (v : Value) → HasKindOf (heap_of things) kind v
    → typing.HasKindOf things kind v
kind_from_heap things None v h = h
kind_from_heap things (Some numbers) v h = h
kind_from_heap things (Some truths) v h = h
kind_from_heap things (Some (objects class)) v h = h
kind_from_heap things (Some int_arrays) v h = h
kind_from_heap things (Some truth_arrays) v h = h
kind_from_heap things (Some nulls) v h = h

no_thing : (things : Things) (n : ℕ) (t : Option Thing) → slice_get things n ≡ t → length things < suc n
    → slice_get things n ≡ None
no_thing things n None e l = e
no_thing things n (Some t) e l = let k = slice_get_within things n t e in absurd (omega arith)

nothing_beyond : (things : Things) (n : ℕ) → length things < n → IsUnused (heap_of things) n
nothing_beyond things zero l = record { class = refl; length = refl; fields = λ name. refl; elements = λ index. refl }
nothing_beyond things (suc n) l =
    let e : slice_get things n ≡ None = no_thing things n (slice_get things n) refl l in record {
      class = ap class_in e;
      length = ap length_in e;
      fields = λ name. ap (λ t. field_in t name) e;
      elements = λ index. ap (λ t. element_in t index) e;
    }

pub list_typed : (kinds : Name → Name → Option Kind) (things : Things)
    → (IsWellTyped kinds things → IsTypedHeap kinds (heap_of things))
    × (IsTypedHeap kinds (heap_of things) → IsWellTyped kinds things)
list_typed kinds things = (
  (λ t. record {
    fields = λ object class name v c e. kind_to_heap things (kinds class name) v (t.fields object class name v c e);
    elements = t.elements;
    complete = t.complete;
    null = record { class = refl; length = refl; fields = λ name. refl; elements = λ index. refl };
    beyond = nothing_beyond things;
  }),
  (λ t. record {
    fields = λ object class name v c e. kind_from_heap things (kinds class name) v (t.fields object class name v c e);
    elements = t.elements;
    complete = t.complete;
  }),
)

-- A heap with all that was in another: what has a kind there has it here.

record Grown (old new : Heap) : Type 0 where
  classes : (n : ℕ) (class : Name) → old.class n ≡ Some class → new.class n ≡ Some class
  numbers : (n : ℕ) → IsArrayOf is_number old n → IsArrayOf is_number new n
  truths : (n : ℕ) → IsArrayOf is_truth old n → IsArrayOf is_truth new n

refers_kept : (P Q : ℕ → Type 0) (v : Value) → ((n : ℕ) → P n → Q n) → Refers P v → Refers Q v
refers_kept P Q (value.Number z) f h = h
refers_kept P Q (value.Truth b) f h = h
refers_kept P Q (value.Reference zero) f h = h
refers_kept P Q (value.Reference (suc n)) f h = f (suc n) h

kind_kept : {old new : Heap} → Grown old new → (kind : Option Kind) (v : Value) → HasKindOf old kind v → HasKindOf new kind v
kind_kept g None v h = h
kind_kept g (Some numbers) v h = h
kind_kept g (Some truths) v h = h
kind_kept {old} {new} g (Some (objects class)) v h =
    refers_kept (λ n. old.class n ≡ Some class) (λ n. new.class n ≡ Some class) v (λ n e. g.classes n class e) h
kind_kept {old} {new} g (Some int_arrays) v h = refers_kept (IsArrayOf is_number old) (IsArrayOf is_number new) v g.numbers h
kind_kept {old} {new} g (Some truth_arrays) v h = refers_kept (IsArrayOf is_truth old) (IsArrayOf is_truth new) v g.truths h
kind_kept g (Some nulls) v h = h

-- Writes.

-- what is read after a write is what was written, or what was read before
read_by : (b : Bool) (value v : Value) (before : Option Value) (P : Type 0) → cond b (Some value) before ≡ Some v
    → (b ≡ true → value ≡ v → P) → (before ≡ Some v → P) → P
read_by true value v before P e f g = f refl (same_Some value v e)
read_by false value v before P e f g = g e

holds_value : (test : Value → Bool) (a b : Value) → a ≡ b → test a ≡ true → test b ≡ true
holds_value test a b e h = ap test (sym e) ∙ h

-- an array whose elements pass a test, once a value that passes it was written
array_written : (test : Value → Bool) (old : Heap) (location : Location) (value : Value) (array : ℕ)
    → ((b : ℕ) (j : ℤ) → location ≡ Cell b j → array ≡ b → test value ≡ true) → HoldsOnly test old array
    → HoldsOnly test (written old location value) array
array_written test old (Field object name) value array fits h index v e = h index v e
array_written test old (Cell b j) value array fits h index v e =
    read_by (same_location (Cell array index) (Cell b j)) value v (old.value (Cell array index)) (test v ≡ true) e
    (λ t k. holds_value test value v k
    (fits b j refl (eqb-true array b (front (nat_eq array b) (same_number index j) t))))
    (h index v)

-- no value is a number and a truth value
not_both : (v : Value) → is_number v ≡ true → is_truth v ≡ true → ⊥
not_both (value.Number z) p q = cc
not_both (value.Truth b) p q = cc
not_both (value.Reference n) p q = cc

found : (o : Option Value) → IsSome o → (v : Value) × (o ≡ Some v)
found None h = absurd (cc)
found (Some v) h = (v, refl)

module _ (kinds : Name → Name → Option Kind) (old : Heap) where
  -- a value that fits passes each test that the elements of the array pass
  number_fits : (b : ℕ) (j : ℤ) (v : Value) → IsSome (old.value (Cell b j)) → FitsAt kinds old (Cell b j) v
      → HoldsOnly is_number old b → is_number v ≡ true
  number_fits b j v there (inl p) h = p.1
  number_fits b j v there (inr p) h =
      let u = found (old.value (Cell b j)) there in absurd (not_both u.0 (h j u.0 u.1) (p.0 j u.0 u.1))

  truth_fits : (b : ℕ) (j : ℤ) (v : Value) → IsSome (old.value (Cell b j)) → FitsAt kinds old (Cell b j) v
      → HoldsOnly is_truth old b → is_truth v ≡ true
  truth_fits b j v there (inr p) h = p.1
  truth_fits b j v there (inl p) h =
      let u = found (old.value (Cell b j)) there in absurd (not_both u.0 (p.0 j u.0 u.1) (h j u.0 u.1))

some_by : (b : Bool) (value : Value) (o : Option Value) → IsSome o → IsSome (cond b (Some value) o)
some_by true value o h = refl
some_by false value o h = h

none_by : (b : Bool) (value : Value) (o : Option Value) → b ≡ false → o ≡ None → cond b (Some value) o ≡ None
none_by true value o e h = absurd (cc)
none_by false value o e h = h

-- what has a value isn't what has none
apart : (b : Bool) (x y : Option Value) → (b ≡ true → x ≡ y) → IsSome y → x ≡ None → b ≡ false
apart true x y f h e =
    let s : x ≡ y = f refl in
    let k : is_some x ≡ true = ap is_some s ∙ h in
    let l : is_some x ≡ false = ap is_some e in
    absurd (cc)
apart false x y f h e = refl

pub location_same : (a b : Location) → same_location a b ≡ true → a ≡ b
location_same (Field a f) (Field b g) h =
    let s : a ≡ b = eqb-true a b (front (nat_eq a b) (same_name f g) h) in
    let t : f ≡ g = names_same f g (back (nat_eq a b) (same_name f g) h) in
    cc
location_same (Field a f) (Cell b j) h = absurd (cc)
location_same (Cell a i) (Field b g) h = absurd (cc)
location_same (Cell a i) (Cell b j) h =
    let s : a ≡ b = eqb-true a b (front (nat_eq a b) (same_number i j) h) in
    let t : i ≡ j = numbers_same i j (back (nat_eq a b) (same_number i j) h) in
    cc

module _ (kinds : Name → Name → Option Kind) (old : Heap) (location : Location) (v : Value)
    (there : IsSome (old.value location)) (fits : FitsAt kinds old location v) where
  numbers_written : (array : ℕ) → HoldsOnly is_number old array → HoldsOnly is_number (written old location v) array
  numbers_written array h =
      array_written is_number old location v array
      (λ b j e k. number_fits kinds old b j v (subst (λ l. IsSome (old.value l)) e there)
      (subst (λ l. FitsAt kinds old l v) e fits)
      (subst (λ n. HoldsOnly is_number old n) k h)) h

  truths_written : (array : ℕ) → HoldsOnly is_truth old array → HoldsOnly is_truth (written old location v) array
  truths_written array h =
      array_written is_truth old location v array
      (λ b j e k. truth_fits kinds old b j v (subst (λ l. IsSome (old.value l)) e there)
      (subst (λ l. FitsAt kinds old l v) e fits)
      (subst (λ n. HoldsOnly is_truth old n) k h)) h

  written_grown : Grown old (written old location v)
  written_grown = record {
    classes = λ n class e. e;
    numbers = λ n p. (p.0, numbers_written n p.1);
    truths = λ n p. (p.0, truths_written n p.1);
  }

  elements_written : (array : ℕ) → HoldsOnly is_number old array ⊎ HoldsOnly is_truth old array
      → HoldsOnly is_number (written old location v) array ⊎ HoldsOnly is_truth (written old location v) array
  elements_written array (inl h) = inl (numbers_written array h)
  elements_written array (inr h) = inr (truths_written array h)

  -- where nothing stands, nothing is written
  unwritten : (other : Location) → old.value other ≡ None → (written old location v).value other ≡ None
  unwritten other e =
      let f : same_location other location ≡ false =
      apart (same_location other location) (old.value other) (old.value location)
      (λ t. ap old.value (location_same other location t)) there e in
      none_by (same_location other location) v (old.value other) f e

  unused_written : (n : ℕ) → IsUnused old n → IsUnused (written old location v) n
  unused_written n u = record {
    class = u.class;
    length = u.length;
    fields = λ name. unwritten (Field n name) (u.fields name);
    elements = λ index. unwritten (Cell n index) (u.elements index);
  }

-- the field of the write, or another one
field_written : (kinds : Name → Name → Option Kind) (old : Heap) (location : Location) (value : Value) (object : ℕ)
    (class name : Name) (v : Value)
    → IsTypedHeap kinds old → FitsAt kinds old location value → old.class object ≡ Some class
    → (written old location value).value (Field object name) ≡ Some v → HasKindOf old (kinds class name) v
field_written kinds old (Cell b j) value object class name v typed fits c e = typed.fields object class name v c e
field_written kinds old (Field b f) value object class name v typed fits c e =
    read_by (same_location (Field object name) (Field b f)) value v (old.value (Field object name))
    (HasKindOf old (kinds class name) v) e
    (λ t k. let at : object ≡ b = eqb-true object b (front (nat_eq object b) (same_name name f) t) in
    let named : name ≡ f = names_same name f (back (nat_eq object b) (same_name name f) t) in
    subst (λ x. HasKindOf old (kinds class name) x) k
    (subst (λ x. HasKindOf old (kinds class x) value) (sym named) (fits class (ap old.class (sym at) ∙ c))))
    (typed.fields object class name v c)

write_typed : (kinds : Name → Name → Option Kind) (old : Heap) (location : Location) (v : Value) → IsTypedHeap kinds old
    → IsSome (old.value location)
    → FitsAt kinds old location v → IsTypedHeap kinds (written old location v)
write_typed kinds old location v typed there fits = record {
  fields = λ object class name u c e.
      kind_kept (written_grown kinds old location v there fits) (kinds class name) u
      (field_written kinds old location v object class name u typed fits c e);
  elements = λ array. elements_written kinds old location v there fits array (typed.elements array);
  complete = λ object class name c h.
      some_by (same_location (Field object name) location) v (old.value (Field object name))
      (typed.complete object class name c h);
  null = unused_written kinds old location v there fits 0 typed.null;
  beyond = λ n l. unused_written kinds old location v there fits n (typed.beyond n l);
}

-- New objects.

-- a function that was changed where it had nothing
kept_at : {A : Type 0} (n : ℕ) (x y : A) (f : ℕ → Option A) (j : ℕ) → f n ≡ None → f j ≡ Some y
    → at_number n (Some x) f j ≡ Some y
kept_at n x y f j u e = go (nat_eq j n) refl
  where
    go : (b : Bool) → nat_eq j n ≡ b → at_number n (Some x) f j ≡ Some y
    go true t = let s : j ≡ n = eqb-true j n t in absurd (none-some y (sym u ∙ (ap f (sym s) ∙ e)))
    go false t = rw t e

not_the_next : (n count : ℕ) → suc count < n → nat_eq n (suc count) ≡ false
not_the_next n count l = go (nat_eq n (suc count)) refl
  where
    go : (b : Bool) → nat_eq n (suc count) ≡ b → nat_eq n (suc count) ≡ false
    go true t = let s : n ≡ suc count = eqb-true n (suc count) t in absurd (omega arith)
    go false t = t

null_not_next : (count : ℕ) → nat_eq 0 (suc count) ≡ false
null_not_next count = grind (arith, nat_tests)

object_grown : (old : Heap) (class : Name) (fields : Fields) → IsUnused old (suc old.count)
    → Grown old (with_object old class fields)
object_grown old class fields u = record {
  classes = λ n c e. kept_at (suc old.count) class c old.class n u.class e;
  numbers = λ n p. p;
  truths = λ n p. p;
}

unused_object : (old : Heap) (class : Name) (fields : Fields) (n : ℕ) → nat_eq n (suc old.count) ≡ false → IsUnused old n
    → IsUnused (with_object old class fields) n
unused_object old class fields n e u = record {
  class = rw e u.class;
  length = u.length;
  fields = λ name. rw e (u.fields name);
  elements = u.elements;
}

-- the default of a type has its kind
default_fits : (heap : Heap) (type : PvType) → HasKind heap (kind_of type) (default_of type)
default_fits heap Int = refl
default_fits heap Truth = refl
default_fits heap (Object class) = tt
default_fits heap IntArray = tt
default_fits heap TruthArray = tt
default_fits heap Null = tt

default_kind : (heap : Heap) (type : Option PvType) (v : Value) → option_map default_of type ≡ Some v
    → HasKindOf heap (option_map kind_of type) v
default_kind heap None v e = absurd (none-some v e)
default_kind heap (Some type) v e =
    subst (λ x. HasKind heap (kind_of type) x) (same_Some (default_of type) v e) (default_fits heap type)

default_there : (type : Option PvType) → IsSome (option_map kind_of type) → IsSome (option_map default_of type)
default_there None h = h
default_there (Some type) h = refl

abbrev first_type : List Parameter → Name → Option PvType
first_type fs name = type_in (first_that (λ f. same_name f.0 name) fs)

abbrev defaults : List Parameter → Fields
defaults fs = map (λ f. (f.0, default_of f.1)) fs

same_turned : (a b : Name) → same_name a b ≡ same_name b a
same_turned a b = grind (arith, nat_tests)

default_by : (f : Parameter) (b : Bool) (v : Option Value) (found : Option Parameter) → v ≡ option_map default_of (type_in found)
    → cond b (Some (default_of f.1)) v ≡ option_map default_of (type_in (cond b (Some f) found))
default_by f true v found e = refl
default_by f false v found e = e

-- a field of a new object has the default of its type
default_value : (fs : List Parameter) (name : Name) → field_value (defaults fs) name ≡ option_map default_of (first_type fs name)
default_value [] name = refl
default_value (f ∷ fs) name =
    ap (λ b. cond b (Some (default_of f.1)) (field_value (defaults fs) name)) (same_turned name f.0)
    ∙ default_by f (same_name f.0 name) (field_value (defaults fs) name) (first_that (λ g. same_name g.0 name) fs)
    (default_value fs name)

module _ (p : Program) (old : Heap) (class : Name) (typed : IsTypedHeap (field_kind p) old) where
  abbrev with_new : Heap
  with_new = with_object old class (first_fields p class)

  new_grown : Grown old with_new
  new_grown = object_grown old class (first_fields p class) (typed.beyond (suc old.count) (omega arith))

  object_fields : (b : Bool) (object : ℕ) (c name : Name) (v : Value) → cond b (Some class) (old.class object) ≡ Some c
      → cond b (field_value (first_fields p class) name) (old.value (Field object name)) ≡ Some v
      → HasKindOf with_new (field_kind p c name) v
  object_fields true object c name v k e =
      subst (λ x. HasKindOf with_new (field_kind p x name) v) (same_Some class c k)
      (default_kind with_new (first_type (fields_of p class) name) v (sym (default_value (fields_of p class) name) ∙ e))
  object_fields false object c name v k e = kind_kept new_grown (field_kind p c name) v (typed.fields object c name v k e)

  object_complete : (b : Bool) (object : ℕ) (c name : Name) → cond b (Some class) (old.class object) ≡ Some c
      → IsSome (field_kind p c name)
      → IsSome (cond b (field_value (first_fields p class) name) (old.value (Field object name)))
  object_complete true object c name k h =
      subst (λ o. IsSome o) (sym (default_value (fields_of p class) name))
      (default_there (first_type (fields_of p class) name)
      (subst (λ x. IsSome (field_kind p x name)) (sym (same_Some class c k)) h))
  object_complete false object c name k h = typed.complete object c name k h

  object_typed : IsTypedHeap (field_kind p) with_new
  object_typed = record {
    fields = λ object c name v k e. object_fields (nat_eq object (suc old.count)) object c name v k e;
    elements = typed.elements;
    complete = λ object c name k h. object_complete (nat_eq object (suc old.count)) object c name k h;
    null = unused_object old class (first_fields p class) 0 (null_not_next old.count) typed.null;
    beyond = λ n l. unused_object old class (first_fields p class) n (not_the_next n old.count l) (typed.beyond n (omega arith));
  }

-- New arrays.

-- what is read is an element of the new array, or what was read before
element_by : (b t : Bool) (first v : Value) (before : Option Value) (P : Type 0)
    → cond b (cond t (Some first) None) before ≡ Some v
    → (b ≡ true → first ≡ v → P) → (b ≡ false → before ≡ Some v → P) → P
element_by true true first v before P e f g = f refl (same_Some first v e)
element_by true false first v before P e f g = absurd (none-some v e)
element_by false t first v before P e f g = g refl e

length_by : (b : Bool) (n : ℤ) (o : Option ℤ) → IsSome o → IsSome (cond b (Some n) o)
length_by true n o h = refl
length_by false n o h = h

module _ (kinds : Name → Name → Option Kind) (old : Heap) (first : Value) (size : ℕ) (typed : IsTypedHeap kinds old) where
  abbrev with_more : Heap
  with_more = with_array old first size

  array_holds : (test : Value → Bool) (array : ℕ) → (nat_eq array (suc old.count) ≡ true → test first ≡ true)
      → (nat_eq array (suc old.count) ≡ false → HoldsOnly test old array) → HoldsOnly test with_more array
  array_holds test array f g index v e =
      element_by (nat_eq array (suc old.count)) _ first v (old.value (Cell array index)) (test v ≡ true) e
      (λ t k. holds_value test first v k (f t)) (λ t k. g t index v k)

  -- an array that was there isn't the new one
  array_kept : (test : Value → Bool) (array : ℕ) → IsArrayOf test old array → IsArrayOf test with_more array
  array_kept test array p =
      (length_by (nat_eq array (suc old.count)) (pos size) (old.length array) p.0, array_holds test array other (λ t. p.1))
    where
      other : nat_eq array (suc old.count) ≡ true → test first ≡ true
      other t =
          let s : array ≡ suc old.count = eqb-true array (suc old.count) t in
          let u : old.length (suc old.count) ≡ None = (typed.beyond (suc old.count) (omega arith)).length in
          let k : is_some (old.length array) ≡ false = ap (λ n. is_some (old.length n)) s ∙ ap is_some u in
          let h : is_some (old.length array) ≡ true = p.0 in
          absurd (cc)

  array_grown : Grown old with_more
  array_grown = record { classes = λ n c e. e; numbers = array_kept is_number; truths = array_kept is_truth }

  array_elements : (is_number first ≡ true) ⊎ (is_truth first ≡ true) → (array : ℕ) (b : Bool) → nat_eq array (suc old.count) ≡ b
      → HoldsOnly is_number old array ⊎ HoldsOnly is_truth old array
      → HoldsOnly is_number with_more array ⊎ HoldsOnly is_truth with_more array
  array_elements (inl k) array true t h = inl (array_holds is_number array (λ s. k) (λ s. absurd (cc)))
  array_elements (inr k) array true t h = inr (array_holds is_truth array (λ s. k) (λ s. absurd (cc)))
  array_elements k array false t (inl h) = inl (array_holds is_number array (λ s. absurd (cc)) (λ s. h))
  array_elements k array false t (inr h) = inr (array_holds is_truth array (λ s. absurd (cc)) (λ s. h))

  unused_array : (n : ℕ) → nat_eq n (suc old.count) ≡ false → IsUnused old n → IsUnused with_more n
  unused_array n e u = record {
    class = u.class;
    length = rw e u.length;
    fields = u.fields;
    elements = λ index. rw e (u.elements index);
  }

  array_typed : (is_number first ≡ true) ⊎ (is_truth first ≡ true) → IsTypedHeap kinds with_more
  array_typed k = record {
    fields = λ object class name v c e. kind_kept array_grown (kinds class name) v (typed.fields object class name v c e);
    elements = λ array. array_elements k array (nat_eq array (suc old.count)) refl (typed.elements array);
    complete = typed.complete;
    null = unused_array 0 (null_not_next old.count) typed.null;
    beyond = λ n l. unused_array n (not_the_next n old.count l) (typed.beyond n (omega arith));
  }

plain_default : (type : PvType) → (type ≡ Int) ⊎ (type ≡ Truth)
    → (is_number (default_of type) ≡ true) ⊎ (is_truth (default_of type) ≡ true)
plain_default type (inl e) = inl (ap (λ t. is_number (default_of t)) e)
plain_default type (inr e) = inr (ap (λ t. is_truth (default_of t)) e)

-- Steps.

after_typed : (p : Program) (label : Option Label) (heap : Heap) → IsTypedHeap (field_kind p) heap
    → KeepsKinds (field_kind p) heap label → Finds heap label
    → IsTypedHeap (field_kind p) (heap_after p label heap)
after_typed p None heap typed fits there = typed
after_typed p (Some (Label.Read location)) heap typed fits there = typed
after_typed p (Some (Label.Write location v)) heap typed fits there = write_typed (field_kind p) heap location v typed there fits
after_typed p (Some (Label.Length n)) heap typed fits there = typed
after_typed p (Some (Label.NewObject class)) heap typed fits there = object_typed p heap class typed
after_typed p (Some (Label.NewArray type (pos n))) heap typed fits there =
    array_typed (field_kind p) heap (default_of type) n typed (plain_default type fits)
after_typed p (Some (Label.NewArray type (negsuc n))) heap typed fits there = typed
after_typed p (Some Label.Check) heap typed fits there = typed
after_typed p (Some (Label.Call n)) heap typed fits there = typed
after_typed p (Some Label.Return) heap typed fits there = typed
after_typed p (Some (Label.Fork n)) heap typed fits there = typed
after_typed p (Some (Label.Join n)) heap typed fits there = typed
after_typed p (Some (Label.Lock n)) heap typed fits there = typed
after_typed p (Some (Label.Unlock n)) heap typed fits there = typed
after_typed p (Some (Label.Commit n)) heap typed fits there = typed
after_typed p (Some (Label.Open low high)) heap typed fits there = typed
after_typed p (Some Label.End) heap typed fits there = typed
after_typed p (Some Label.Close) heap typed fits there = typed
after_typed p (Some Label.Arrive) heap typed fits there = typed
after_typed p (Some Label.Leave) heap typed fits there = typed
after_typed p (Some (Label.Send position)) heap typed fits there = typed
after_typed p (Some (Label.Receive position)) heap typed fits there = typed

pub step_typed : (p : Program) (label : Option Label) (heap next : Heap) → IsHeapStep p label heap next
    → IsTypedHeap (field_kind p) heap
    → KeepsKinds (field_kind p) heap label → IsTypedHeap (field_kind p) next
step_typed p label heap next s typed fits =
    subst (λ x. IsTypedHeap (field_kind p) x) (sym s.after) (after_typed p label heap typed fits s.finds)

-- a step that keeps to the kinds keeps the heap well typed
pub act-typed : (p : Program) (w v : World) (mode : Mode) (i : ℕ) → IsTypedHeap (field_kind p) w.heap
    → KeepsKinds (field_kind p) w.heap (next (w.threads i)) → act p w mode i ≡ Result.Went v → IsTypedHeap (field_kind p) v.heap
act-typed p w v mode i typed fits e = step_typed p (next (w.threads i)) w.heap v.heap (act-does p w v mode i e) typed fits

same_grown : (old : Heap) → Grown old old
same_grown old = record { classes = λ n class e. e; numbers = λ n h. h; truths = λ n h. h }

after_grown : (p : Program) (label : Option Label) (heap : Heap) → IsTypedHeap (field_kind p) heap
    → KeepsKinds (field_kind p) heap label → Finds heap label
    → Grown heap (heap_after p label heap)
after_grown p None heap typed fits there = same_grown heap
after_grown p (Some (Label.Read location)) heap typed fits there = same_grown heap
after_grown p (Some (Label.Write location v)) heap typed fits there = written_grown (field_kind p) heap location v there fits
after_grown p (Some (Label.Length n)) heap typed fits there = same_grown heap
after_grown p (Some (Label.NewObject class)) heap typed fits there = new_grown p heap class typed
after_grown p (Some (Label.NewArray type (pos n))) heap typed fits there =
    array_grown (field_kind p) heap (default_of type) n typed
after_grown p (Some (Label.NewArray type (negsuc n))) heap typed fits there = same_grown heap
after_grown p (Some Label.Check) heap typed fits there = same_grown heap
after_grown p (Some (Label.Call n)) heap typed fits there = same_grown heap
after_grown p (Some Label.Return) heap typed fits there = same_grown heap
after_grown p (Some (Label.Fork n)) heap typed fits there = same_grown heap
after_grown p (Some (Label.Join n)) heap typed fits there = same_grown heap
after_grown p (Some (Label.Lock n)) heap typed fits there = same_grown heap
after_grown p (Some (Label.Unlock n)) heap typed fits there = same_grown heap
after_grown p (Some (Label.Commit n)) heap typed fits there = same_grown heap
after_grown p (Some (Label.Open low high)) heap typed fits there = same_grown heap
after_grown p (Some Label.End) heap typed fits there = same_grown heap
after_grown p (Some Label.Close) heap typed fits there = same_grown heap
after_grown p (Some Label.Arrive) heap typed fits there = same_grown heap
after_grown p (Some Label.Leave) heap typed fits there = same_grown heap
after_grown p (Some (Label.Send position)) heap typed fits there = same_grown heap
after_grown p (Some (Label.Receive position)) heap typed fits there = same_grown heap

-- what a label does to a heap leaves each value its kind
pub after-keeps : (p : Program) (label : Option Label) (heap : Heap) → IsTypedHeap (field_kind p) heap
    → KeepsKinds (field_kind p) heap label
    → Finds heap label → (kind : Option Kind) (v : Value) → HasKindOf heap kind v → HasKindOf (heap_after p label heap) kind v
after-keeps p label heap typed fits there kind v h = kind_kept (after_grown p label heap typed fits there) kind v h

-- a step that keeps to the kinds leaves each value its kind
pub act-keeps : (p : Program) (w v : World) (mode : Mode) (i : ℕ) → IsTypedHeap (field_kind p) w.heap
    → KeepsKinds (field_kind p) w.heap (next (w.threads i)) → act p w mode i ≡ Result.Went v
    → (kind : Option Kind) (value : Value) → HasKindOf w.heap kind value → HasKindOf v.heap kind value
act-keeps p w v mode i typed fits e kind value h =
    let s = act-does p w v mode i e in
    subst (λ x. HasKindOf x kind value) (sym s.after) (after-keeps p (next (w.threads i)) w.heap typed fits s.finds kind value h)
