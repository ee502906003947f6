-- At each location stands one resource of those that are held; and what is written leaves all others as they are.
use Rattle.std.proofs.Common.{◌≡◌, ◌≢◌, inl, inr, ℕ, zero, suc, ◌≤◌, ℤ, Bool, true, false, if◌then◌else◌, IsTrue, Option, Some, None, IsSome, refl, ap, sym, subst, ◌∙◌, arith}
use Rattle.std.proofs.lemmas.Option.{none-some, same_Some}
use Rattle.pv_base.specs.declared.Name.{Name}
use Rattle.pv_ast.specs.declared.PvType.{PvType}
use Rattle.pv_ast.specs.declared.PvType.TheVariants.{Int, Truth}
use Rattle.pv_values.specs.declared.value.Value.{Value}
use Rattle.pv_values.specs.declared.value.Value.TheVariants as value
use Rattle.pv_values.specs.declared.value.Location.{Location}
use Rattle.pv_values.specs.declared.value.Location.TheVariants as location
use Rattle.pv_values.specs.Heaps.{same_location}
use Rattle.pv_values.specs.Typing.{Kind, is_number, is_truth}
use Rattle.pv_picks.specs.Plain.Core.{Program}
use Rattle.pv_picks.specs.Formulas.Values.{array_of}
use Rattle.pv_picks.specs.Formulas.Heaps.{Heap, written}
use Rattle.pv_picks.specs.Machine.Labels.{Label}
use Rattle.pv_picks.specs.Judge.States.{Resource, InField, InElement, OfToken, OfLock}
use Rattle.pv_picks.specs.Machine.Starts.{field_kind}
use Rattle.pv_picks.specs.Typing.Heaps.{HoldsOnly, IsTypedHeap, HasKindOf, FitsAt}
use Rattle.machine_laws.proofs.Typed.{location_same, after-keeps}
use Rattle.pv_picks.specs.Typing.Expressions.{IsElement}
use Rattle.pv_picks.specs.Typing.Frames.{HasType}
use Rattle.account_formulas.specs.Sights.{Stands}
use Rattle.account_formulas.specs.Owning.{Amounts, IsPlaced, KeepsHeld}
use Rattle.account_formulas.specs.Growing.{HeapFits}
use Rattle.account_formulas.proofs.Asking.{location_self}
use Rattle.account_formulas.proofs.Raising.{some_of}
use Rattle.account.proofs.Later.{Grown}

-- where a resource stands
abbrev pub location_of : Resource → Option Location
location_of (InField class object name) = Some (location.Field object name)
location_of (InElement type array index) = Some (location.Cell array index)
location_of (OfToken token class object) = None
location_of (OfLock class object) = None

value_kinds : {A : Type 0} (v : Value) → IsTrue (is_number v) → IsTrue (is_truth v) → A
value_kinds (value.Number z) a b = absurd (cc b)
value_kinds (value.Truth t) a b = absurd (cc a)
value_kinds (value.Reference n) a b = absurd (cc a)

both_kinds : {A : Type 0} (heap : Heap) (array : ℕ) (index : ℤ) → IsSome (heap.value (location.Cell array index))
    → HasType heap (array_of Int) (value.Reference array) → HasType heap (array_of Truth) (value.Reference array) → array ≢ 0 → A
both_kinds heap zero index some a b full = absurd (full refl)
both_kinds heap (suc n) index some a b full =
    let x = some_of (heap.value (location.Cell (suc n) index)) some in value_kinds x.0 (a.1 index x.0 x.1) (b.1 index x.0 x.1)

kinds_apart : (heap : Heap) (array : ℕ) (index : ℤ) (t u : PvType) → IsElement t → IsElement u
    → IsSome (heap.value (location.Cell array index))
    → HasType heap (array_of t) (value.Reference array) → HasType heap (array_of u) (value.Reference array) → array ≢ 0 → t ≡ u
kinds_apart heap array index t u (inl e) (inl f) some a b full = e ∙ sym f
kinds_apart heap array index t u (inr e) (inr f) some a b full = e ∙ sym f
kinds_apart heap array index t u (inl e) (inr f) some a b full =
    both_kinds heap array index some (subst (λ x. HasType heap (array_of x) (value.Reference array)) e a)
    (subst (λ x. HasType heap (array_of x) (value.Reference array)) f b) full
kinds_apart heap array index t u (inr e) (inl f) some a b full =
    both_kinds heap array index some (subst (λ x. HasType heap (array_of x) (value.Reference array)) f b)
    (subst (λ x. HasType heap (array_of x) (value.Reference array)) e a) full

pub one_resource : (heap : Heap) → ((index : ℤ) → heap.value (location.Cell 0 index) ≡ None) → (x y : Resource)
    (place : Location) → IsPlaced heap x → IsPlaced heap y → location_of x ≡ Some place → location_of y ≡ Some place → x ≡ y
one_resource heap null (InField c o n) (InField d q m) place a b h k =
    let same : location.Field o n ≡ location.Field q m = same_Some _ _ (h ∙ sym k) in
    let one : o ≡ q = cc same in let two : n ≡ m = cc same in
    let class : c ≡ d = same_Some c d (sym a.0 ∙ subst (λ x. heap.class x ≡ Some d) (sym one) b.0) in
    ap (λ x. InField x o n) class ∙ ap (λ x. InField d x n) one ∙ ap (λ x. InField d q x) two
one_resource heap null (InElement t x i) (InElement u y j) place a b h k =
    let same : location.Cell x i ≡ location.Cell y j = same_Some _ _ (h ∙ sym k) in
    let one : x ≡ y = cc same in let two : i ≡ j = cc same in
    let type : t ≡ u = kinds_apart heap x i t u a.2 b.2 a.1 a.3
    (subst (λ z. HasType heap (array_of u) (value.Reference z)) (sym one) b.3) (λ z. full z) in
    ap (λ z. InElement z x i) type ∙ ap (λ z. InElement u z i) one ∙ ap (λ z. InElement u y z) two
  where
    full : x ≡ 0 → ⊥
    full z =
        let some = some_of (heap.value (location.Cell x i)) a.1 in
        let none = null i in
        let here = subst (λ w. heap.value (location.Cell w i) ≡ Some some.0) z some.1 in absurd (cc (none, here))
one_resource heap null (InField c o n) (InElement u y j) place a b h k =
    absurd (let same : location.Field o n ≡ location.Cell y j = same_Some _ _ (h ∙ sym k) in cc same)
one_resource heap null (InElement t x i) (InField d q m) place a b h k =
    absurd (let same : location.Cell x i ≡ location.Field q m = same_Some _ _ (h ∙ sym k) in cc same)
one_resource heap null x (OfToken t c o) place a b h k = absurd (none-some place k)
one_resource heap null x (OfLock c o) place a b h k = absurd (none-some place k)
one_resource heap null (OfToken t c o) y place a b h k = absurd (none-some place h)
one_resource heap null (OfLock c o) y place a b h k = absurd (none-some place h)

module _ (heap : Heap) (place : Location) (v : Value) where
  -- a resource at a place stands there
  pub value_there : (x : Resource) (u : Value) → location_of x ≡ Some place → Stands heap x u → heap.value place ≡ Some u
  value_there (InField c o n) u at is = subst (λ l. heap.value l ≡ Some u) (same_Some _ place at) is
  value_there (InElement t a i) u at is = subst (λ l. heap.value l ≡ Some u) (same_Some _ place at) is
  value_there (OfToken t c o) u at is = absurd (none-some place at)
  value_there (OfLock c o) u at is = absurd (none-some place at)

  -- what was written stands
  pub stands_written : (x : Resource) → location_of x ≡ Some place → Stands (written heap place v) x v
  stands_written (InField c o n) at =
      ap (λ b. if b then Some v else heap.value (location.Field o n))
      (subst (λ l. same_location (location.Field o n) l ≡ true) (same_Some _ place at) (location_self (location.Field o n)))
  stands_written (InElement t a i) at =
      ap (λ b. if b then Some v else heap.value (location.Cell a i))
      (subst (λ l. same_location (location.Cell a i) l ≡ true) (same_Some _ place at) (location_self (location.Cell a i)))
  stands_written (OfToken t c o) at = tt
  stands_written (OfLock c o) at = tt

  -- over a write, amounts that have nothing of the place are kept
  pub written_keeps : ((type : PvType) (array : ℕ) → HasType heap type (value.Reference array)
      → HasType (written heap place v) type (value.Reference array)) → (A : Amounts)
      → ((r : Resource) → location_of r ≡ Some place → A r ≡ 0) → KeepsHeld A heap (written heap place v)
  written_keeps types A none = record { placed = placed; kept = kept; lengths = λ a n is. is }
    where
      still : (l : Location) (b : Bool) → IsSome (heap.value l) → IsSome (if b then Some v else heap.value l)
      still l true some = refl
      still l false some = some

      placed : (r : Resource) → IsPlaced heap r → IsPlaced (written heap place v) r
      placed (InField c o n) h = (h.0, still (location.Field o n) (same_location (location.Field o n) place) h.1)
      placed (InElement t a i) h =
          (h.0, still (location.Cell a i) (same_location (location.Cell a i) place) h.1, h.2, types (array_of t) a h.3)
      placed (OfToken t c o) h = h
      placed (OfLock c o) h = h

      other : (r : Resource) (l : Location) (x : Value) → location_of r ≡ Some l → 1 ≤ A r → heap.value l ≡ Some x → (b : Bool)
          → same_location l place ≡ b → (if b then Some v else heap.value l) ≡ Some x
      other r l x at more is true e =
          let nothing = none r (at ∙ ap Some (location_same l place e)) in absurd (omega (arith, nothing, more))
      other r l x at more is false e = is

      kept : (r : Resource) (x : Value) → 1 ≤ A r → Stands heap r x → Stands (written heap place v) r x
      kept (InField c o n) x more is =
          other (InField c o n) (location.Field o n) x refl more is (same_location (location.Field o n) place) refl
      kept (InElement t a i) x more is =
          other (InElement t a i) (location.Cell a i) x refl more is (same_location (location.Cell a i) place) refl
      kept (OfToken t c o) x more is = tt
      kept (OfLock c o) x more is = tt

-- a write of a fitting value keeps types
module _ (p : Program) (heap : Heap) (place : Location) (v : Value) (typed : IsTypedHeap (field_kind p) heap)
    (there : IsSome (heap.value place)) (fits : FitsAt (field_kind p) heap place v) where
  kinds_kept : (kind : Option Kind) (u : Value) → HasKindOf heap kind u → HasKindOf (written heap place v) kind u
  kinds_kept kind u h = after-keeps p (Some (Label.Write place v)) heap typed fits there kind u h

  at_cell : (array : ℕ) (index : ℤ) → location.Cell array index ≡ place → FitsAt (field_kind p) heap (location.Cell array index) v
  at_cell array index e = subst (λ l. FitsAt (field_kind p) heap l v) (sym e) fits

  only_numbers : (array : ℕ) → HoldsOnly is_number (written heap place v) array → HoldsOnly is_number heap array
  only_numbers array h index u is = go (same_location (location.Cell array index) place) refl (h index)
    where
      go : (b : Bool) → same_location (location.Cell array index) place ≡ b
          → ((x : Value) → (if b then Some v else heap.value (location.Cell array index)) ≡ Some x → IsTrue (is_number x))
          → IsTrue (is_number u)
      go false e k = k u is
      go true e k = of (at_cell array index (location_same (location.Cell array index) place e)) (k v refl)
        where
          of : FitsAt (field_kind p) heap (location.Cell array index) v → IsTrue (is_number v) → IsTrue (is_number u)
          of (inl q) n = q.0 index u is
          of (inr q) n = value_kinds v n q.1

  only_truths : (array : ℕ) → HoldsOnly is_truth (written heap place v) array → HoldsOnly is_truth heap array
  only_truths array h index u is = go (same_location (location.Cell array index) place) refl (h index)
    where
      go : (b : Bool) → same_location (location.Cell array index) place ≡ b
          → ((x : Value) → (if b then Some v else heap.value (location.Cell array index)) ≡ Some x → IsTrue (is_truth x))
          → IsTrue (is_truth u)
      go false e k = k u is
      go true e k = of (at_cell array index (location_same (location.Cell array index) place e)) (k v refl)
        where
          of : FitsAt (field_kind p) heap (location.Cell array index) v → IsTrue (is_truth v) → IsTrue (is_truth u)
          of (inr q) n = q.0 index u is
          of (inl q) n = value_kinds v q.1 n

  pub written_grown : Grown heap (written heap place v)
  written_grown = record {
    keeps = kinds_kept;
    numbers = only_numbers;
    truths = only_truths;
    count = omega arith;
    class = λ x class is l. is;
    classes = λ x class is. is;
  }

  -- where nothing stood, nothing stands
  unwritten : (l : Location) → heap.value l ≡ None → (written heap place v).value l ≡ None
  unwritten l none = go (same_location l place) refl
    where
      go : (b : Bool) → same_location l place ≡ b → (if b then Some v else heap.value l) ≡ None
      go false e = none
      go true e =
          let some = some_of (heap.value place) there in
          let here = ap heap.value (location_same l place e) in absurd (none-some some.0 (sym none ∙ here ∙ some.1))

  field_fits : (object : ℕ) (class name : Name) (u : Value) → heap.class object ≡ Some class
      → (written heap place v).value (location.Field object name) ≡ Some u → HasKindOf heap (field_kind p class name) u
  field_fits object class name u c is = go (same_location (location.Field object name) place) refl is
    where
      go : (b : Bool) → same_location (location.Field object name) place ≡ b
          → (if b then Some v else heap.value (location.Field object name)) ≡ Some u → HasKindOf heap (field_kind p class name) u
      go false e k = typed.fields object class name u c k
      go true e k =
          subst (λ x. HasKindOf heap (field_kind p class name) x) (same_Some v u k)
          (subst (λ l. FitsAt (field_kind p) heap l v) (sym (location_same (location.Field object name) place e)) fits class c)

  pub written_fits : HeapFits p heap → HeapFits p (written heap place v)
  written_fits h = record {
    now = record {
      fields = λ object class name u c is. kinds_kept (field_kind p class name) u (field_fits (suc object) class name u c is);
      numbers = λ array only. only;
      truths = λ array only. only;
      no_fields = λ name. unwritten (location.Field 0 name) (h.now.no_fields name);
      no_elements = λ index. unwritten (location.Cell 0 index) (h.now.no_elements index);
      beyond_fields = λ n name l. unwritten (location.Field n name) (h.now.beyond_fields n name l);
      beyond_elements = λ n index l. unwritten (location.Cell n index) (h.now.beyond_elements n index l);
    };
    beyond = λ n l. let u = h.beyond n l in record {
      class = u.class;
      length = u.length;
      fields = λ name. unwritten (location.Field n name) (u.fields name);
      elements = λ index. unwritten (location.Cell n index) (u.elements index);
    };
    natural = h.natural;
  }
