-- Where a plain formula is met in a well typed heap, amounts that have what it asks for at each location suffice for it.
use Rattle.std.proofs.Common.{◌≡◌, ◌⊎◌, inl, inr, ℕ, zero, suc, ◌+◌, ◌≤◌, ℤ, pos, Bool, true, false, ◌&&◌, if◌then◌else◌, Option, Some, None, IsSome, List, [], ◌∷◌, refl, ap, sym, subst, ◌∙◌, arith}
use Rattle.std.specs.Prelude.{is_some, int_le, int_lt, ◌+ℤ◌, ◌-ℤ◌}
use Rattle.std.proofs.lemmas.Int.{ints}
use Rattle.pv_base.specs.declared.Name.{Name}
use Rattle.pv_base.specs.declared.Span.{Span}
use Rattle.pv_ast.specs.declared.PvType.{PvType}
use Rattle.pv_ast.specs.declared.PvType.TheVariants.{Int, Object}
use Rattle.pv_values.specs.declared.value.Value.{Value}
use Rattle.pv_values.specs.declared.value.Value.TheVariants as value
use Rattle.pv_values.specs.declared.value.Location.{Location}
use Rattle.pv_values.specs.declared.value.Location.TheVariants as location
use Rattle.pv_values.specs.Heaps.{same_number, same_location}
use Rattle.pv_picks.specs.Plain.Core.{Cut, Expression, Formula, Fact, FieldPermission, ElementPermission, Holds, Instance, Star, When, Each, Items, NoItems, Join, Item, Elements, Repeated, Committed, Guarded, Fixed, Parameter}
use Rattle.pv_picks.specs.Formulas.Values.{number_in, truth_in, reference_in, equality, array_of, within, width, is_empty}
use Rattle.pv_picks.specs.Formulas.Heaps.{Heap}
use Rattle.pv_picks.specs.Formulas.Evaluation.{Scene}
use Rattle.pv_picks.specs.Formulas.Meeting.{Finding, AllMet, FirstUnmet, Sight, or_stop, at, value_or, unless, first_of, at_each, passes, guard_term, behind, unmet, unmet_items, unmet_item, units_at, sum_of_each, units_in, units_in_items, units_in_item}
use Rattle.pv_picks.specs.Judge.Repetitions.{Range, range_of, cut_by}
use Rattle.pv_picks.specs.Judge.States.{Resource, InField, InElement, OfToken, OfLock}
use Rattle.pv_picks.specs.Machine.Starts.{field_kind, is_plain, are_plain, is_plain_item}
use Rattle.pv_picks.specs.Machine.Frames.{only_now}
use Rattle.pv_picks.specs.Typing.Heaps.{IsTypedHeap}
use Rattle.pv_picks.specs.Typing.Expressions.{Home, Speech, type_in, IsElement, Says}
use Rattle.pv_picks.specs.Typing.Frames.{HasType}
use Rattle.account_formulas.specs.Sights.{value_at, ValuesFit, SceneFits}
use Rattle.account_formulas.specs.Good.{IsGood, AreGoodItems, IsGoodItem, AreGoodCuts, type_of_cut}
use Rattle.account_formulas.specs.Owning.{Amounts, IsPlaced, Owns, Owns.fact, Owns.field, Owns.element, Owns.star, Owns.when_on, Owns.when_off, Owns.each, OwnsItems, OwnsItems.no_items, OwnsItems.joined, OwnsItem, OwnsItem.elements, OwnsItem.repeated, OwnsItem.cut_off, OwnsItem.cut, OwnsItem.fixed, OwnsItem.beside, CutsTo}
use Rattle.pv_picks.proofs.Sames.{front, back, numbers_same}
use Rattle.account_formulas.proofs.Basics.{both, not_false, nat_self, number_self, first_within, in_width, above}
use Rattle.account_formulas.proofs.Valuing.{value_then, value_through}
use Rattle.account_formulas.proofs.TypedReads.{element_typed}
use Rattle.account_formulas.proofs.TypedValues.{has_type, is_number_value}
use Rattle.account_formulas.proofs.Sums.{sum_within, sum_of_two, cut_passes, unshifted}
use Rattle.account_formulas.proofs.Dealing.{full_or}
use Rattle.account_formulas.specs.Asking.{asked, is_class, is_of}
use Rattle.account_formulas.proofs.Exhaling.{position_fits}
use Rattle.account_formulas.proofs.Steady.{steady}
use Rattle.account_formulas.proofs.Meeting.{steady_value}

some_unmet : (span : Span) → FirstUnmet span ≡ AllMet → ⊥
some_unmet span is = cc is

-- where nothing is unmet an expression has a value
pub met_through : (span : Span) (sight : Sight) (scene : Scene) (e : Expression) (k : Value → Finding)
    → value_or (FirstUnmet span) sight scene e k ≡ AllMet
    → (v : Value) × (value_at sight scene e ≡ Some v) × (k v ≡ AllMet)
met_through span sight scene e k is =
    go (value_at sight scene e) refl (sym (value_through (FirstUnmet span) sight scene e k) ∙ is)
  where
    go : (o : Option Value) → value_at sight scene e ≡ o → or_stop o (FirstUnmet span) k ≡ AllMet → (v : Value)
        × (value_at sight scene e ≡ Some v) × (k v ≡ AllMet)
    go None h is = absurd (some_unmet span is)
    go (Some v) h is = (v, h, is)

if_sum : (b : Bool) (x y z : ℕ) → x + y ≤ z → (if b then x else 0) + (if b then y else 0) ≤ (if b then z else 0)
if_sum true x y z h = h
if_sum false x y z h = omega arith

pub asked_sum : (heap : Heap) (u v w : Location → ℕ) → ((l : Location) → u l + v l ≤ w l) → (r : Resource)
    → asked heap u r + asked heap v r ≤ asked heap w r
asked_sum heap u v w h (InField class object name) =
    if_sum (is_some (heap.value (location.Field object name)) && is_class (heap.class object) class) _ _ _
    (h (location.Field object name))
asked_sum heap u v w h (InElement type array index) =
    if_sum (is_of type (heap.value (location.Cell array index))) _ _ _ (h (location.Cell array index))
asked_sum heap u v w h (OfToken token class object) = omega arith
asked_sum heap u v w h (OfLock class object) = omega arith

if_less : (b : Bool) (x n : ℕ) → x ≤ n → (if b then x else 0) ≤ n
if_less true x n h = h
if_less false x n h = omega arith

pub asked_less : (heap : Heap) (u : Location → ℕ) (n : ℕ) → ((l : Location) → u l ≤ n) → (r : Resource) → asked heap u r ≤ n
asked_less heap u n h (InField class object name) =
    if_less (is_some (heap.value (location.Field object name)) && is_class (heap.class object) class) _ _
    (h (location.Field object name))
asked_less heap u n h (InElement type array index) =
    if_less (is_of type (heap.value (location.Cell array index))) _ _ (h (location.Cell array index))
asked_less heap u n h (OfToken token class object) = omega arith
asked_less heap u n h (OfLock class object) = omega arith

-- what is met at each position is met at one
pub each_met : (test : ℤ → Finding) (n : ℕ) (low i : ℤ) → at_each test low n ≡ AllMet → int_le low i ≡ true
    → int_lt i (low +ℤ pos n) ≡ true → test i ≡ AllMet
each_met test zero low i met a b = absurd (omega (arith, ints))
each_met test (suc n) low i met a b =
    go (test low) refl met (same_number i low) refl (λ rest e. each_met test n (low +ℤ pos 1) i rest (above low i a e)
    (not_false (int_lt i (low +ℤ pos 1 +ℤ pos n)) (λ z. omega (arith, ints))))
  where
    go : (o : Finding) → test low ≡ o → first_of o (at_each test (low +ℤ pos 1) n) ≡ AllMet → (b : Bool) → same_number i low ≡ b
        → (at_each test (low +ℤ pos 1) n ≡ AllMet → same_number i low ≡ false → test i ≡ AllMet) → test i ≡ AllMet
    go (FirstUnmet span) h met b e later = absurd (some_unmet span met)
    go AllMet h met true e later = ap test (numbers_same i low e) ∙ h
    go AllMet h met false e later = later met e

pub both_met : (a b : Finding) → first_of a b ≡ AllMet → (a ≡ AllMet) × (b ≡ AllMet)
both_met AllMet b h = (refl, h)
both_met (FirstUnmet span) b h = absurd (some_unmet span h)

is_met_there : (b : Bool) (span : Span) → unless b span ≡ AllMet → b ≡ true
is_met_there true span h = refl
is_met_there false span h = absurd (some_unmet span h)

pub location_self : (l : Location) → same_location l l ≡ true
location_self (location.Field o n) = both _ _ (nat_self o) (nat_self n.0)
location_self (location.Cell a i) = both _ _ (nat_self a) (number_self i)

-- the values of a well typed heap have their kinds in it
abbrev pub holding_now : (h : Home) (heap : Heap) → IsTypedHeap (field_kind h.program) heap
    → ValuesFit (field_kind h.program) heap heap
holding_now h heap typed = record {
  fields = λ o class name v is at. typed.fields (suc o) class name v is at;
  numbers = λ a n. n;
  truths = λ a n. n;
  no_fields = typed.null.fields;
  no_elements = typed.null.elements;
  beyond_fields = λ n name k. (typed.beyond n k).fields name;
  beyond_elements = λ n i k. (typed.beyond n k).elements i;
}

module _ (h : Home) (speech : Speech) (flags : ℕ → Bool) (heap : Heap) (typed : IsTypedHeap (field_kind h.program) heap)
    (bounded : (array : ℕ) (index : ℤ) → IsSome (heap.value (location.Cell array index)) → (n : ℤ) × (heap.length array ≡ Some n)
    × (within (pos 0) n index ≡ true)) where
  abbrev here : Sight
  here = only_now heap

  -- an object that has a field has its class
  class_is : (o : Value) (class name : Name) → HasType heap (Object class) o
      → IsSome (heap.value (location.Field (reference_in o) name)) → heap.class (reference_in o) ≡ Some class
  class_is (value.Number z) class name t is = absurd t
  class_is (value.Truth b) class name t is = absurd t
  class_is (value.Reference zero) class name t is = let none = ap is_some (typed.null.fields name) in absurd (cc (none, is))
  class_is (value.Reference (suc n)) class name t is = t

  field_asked : (u : Location → ℕ) (o : Value) (class name : Name) (amount : ℕ)
      → IsSome (heap.value (location.Field (reference_in o) name)) → heap.class (reference_in o) ≡ Some class
      → amount ≤ u (location.Field (reference_in o) name) → amount ≤ asked heap u (InField class (reference_in o) name)
  field_asked u o class name amount is named most =
      subst (λ b. amount ≤ (if b then u (location.Field (reference_in o) name) else 0))
      (sym (both _ _ is (ap (λ c. is_class c class) named ∙ nat_self class.0))) most

  -- an element has the type of its array
  of_type : (type : PvType) → IsElement type → (o : Option Value) → IsSome o → ((v : Value) → o ≡ Some v → HasType heap type v)
      → is_of type o ≡ true
  of_type type elem None is t = absurd (cc is)
  of_type type (inl e) (Some (value.Number z)) is t = subst (λ x. is_of x (Some (value.Number z)) ≡ true) (sym e) refl
  of_type type (inl e) (Some (value.Truth b)) is t =
      let bad = subst (λ x. HasType heap x (value.Truth b)) e (t (value.Truth b) refl) in absurd (cc bad)
  of_type type (inl e) (Some (value.Reference n)) is t =
      let bad = subst (λ x. HasType heap x (value.Reference n)) e (t (value.Reference n) refl) in absurd (cc bad)
  of_type type (inr e) (Some (value.Number z)) is t =
      let bad = subst (λ x. HasType heap x (value.Number z)) e (t (value.Number z) refl) in absurd (cc bad)
  of_type type (inr e) (Some (value.Truth b)) is t = subst (λ x. is_of x (Some (value.Truth b)) ≡ true) (sym e) refl
  of_type type (inr e) (Some (value.Reference n)) is t =
      let bad = subst (λ x. HasType heap x (value.Reference n)) e (t (value.Reference n) refl) in absurd (cc bad)

  array_is : (type : PvType) → IsElement type → (a : Value) → HasType heap (array_of type) a
      → HasType heap (array_of type) (value.Reference (reference_in a))
  array_is type elem (value.Reference n) t = t
  array_is type (inl e) (value.Number z) t = absurd (subst (λ x. HasType heap (array_of x) (value.Number z)) e t)
  array_is type (inl e) (value.Truth b) t = absurd (subst (λ x. HasType heap (array_of x) (value.Truth b)) e t)
  array_is type (inr e) (value.Number z) t = absurd (subst (λ x. HasType heap (array_of x) (value.Number z)) e t)
  array_is type (inr e) (value.Truth b) t = absurd (subst (λ x. HasType heap (array_of x) (value.Truth b)) e t)

  element_placed : (type : PvType) → IsElement type → (a : Value) (i : ℤ) → HasType heap (array_of type) a
      → IsSome (heap.value (location.Cell (reference_in a) i)) → IsPlaced heap (InElement type (reference_in a) i)
  element_placed type elem a i t is = (bounded (reference_in a) i is, is, elem, array_is type elem a t)

  element_asked : (u : Location → ℕ) (type : PvType) → IsElement type → (a : Value) (i : ℤ) (amount : ℕ)
      → HasType heap (array_of type) a → IsSome (heap.value (location.Cell (reference_in a) i))
      → amount ≤ u (location.Cell (reference_in a) i) → amount ≤ asked heap u (InElement type (reference_in a) i)
  element_asked u type elem a i amount t is most =
      subst (λ b. amount ≤ (if b then u (location.Cell (reference_in a) i) else 0))
      (sym (of_type type elem (heap.value (location.Cell (reference_in a) i)) is
      (λ v at. element_typed (field_kind h.program) heap heap (holding_now h heap typed) type elem a v i t at))) most

  units_self : (u : ℕ) (l : Location) (amount : ℕ) → units_at l l amount ≤ u → amount ≤ u
  units_self u l amount most = subst (λ b. (if b then amount else 0) ≤ u) (location_self l) most

  -- what guards leave of a range
  abbrev Cuts : (xs : List Parameter) → Scene → Name → Range → List Cut → (ℤ → Finding) → (ℤ → Location → ℕ) → (Location → ℕ)
      → Type 0
  Cuts xs scene name r cuts test units u = CutsTo here scene cuts r None
      ⊎ ((x : Range) × CutsTo here scene cuts r (Some x)
      × ((i : ℤ) → within x.low x.high i ≡ true → test i ≡ AllMet)
      × ((i : ℤ) → within x.low x.high i ≡ true → (l : Location) → units i l ≤ u l))

  -- a guard that lets a position through is passed over
  passed : (xs : List Parameter) → {R : Type 0} (stop outside : R) (scene : Scene) (name : Name) → type_in xs name ≡ None
      → (guard : Cut)
      → Says h speech xs (guard_term guard) (type_of_cut guard) → (v : Value)
      → value_at here scene (guard_term guard) ≡ Some v → (cuts : List Cut) (i : ℤ) (rest : R) → passes guard i v ≡ true
      → behind stop outside here (at scene name i) (guard ∷ cuts) i rest
      ≡ behind stop outside here (at scene name i) cuts i rest
  passed xs stop outside scene name new guard says v is cuts i rest through =
      steady_value h speech xs name i new stop here scene (guard_term guard) (type_of_cut guard) says v _ is
      ∙ ap (λ b. if b then behind stop outside here (at scene name i) cuts i rest else outside) through

  -- the value at a position is the value outside
  outside : (xs : List Parameter) → (scene : Scene) (name : Name) (i : ℤ) → type_in xs name ≡ None
      → (e : Expression) (type : PvType)
      → Says h speech xs e type → (v : Value)
      → value_at here (at scene name i) e ≡ Some v → value_at here scene e ≡ Some v
  outside xs scene name i new e type says v is =
      sym (steady h speech xs name i new scene _ _ e type says Some Some (λ v. refl)) ∙ is

  cut_step : (xs : List Parameter) → (scene : Scene) (name : Name) → type_in xs name ≡ None
      → (span : Span) (guard : Cut) (cuts : List Cut)
      → Says h speech xs (guard_term guard) (type_of_cut guard) → (r : Range)
      (test : ℤ → Finding) (units : ℤ → Location → ℕ) (u : Location → ℕ)
      → ((i : ℤ) → within r.low r.high i ≡ true → behind (FirstUnmet span) AllMet here (at scene name i) (guard
      ∷ cuts) i (test i) ≡ AllMet)
      → ((v : Value) → value_at here scene (guard_term guard) ≡ Some v → Cuts xs scene name (cut_by guard v r) cuts test units u)
      → Cuts xs scene name r (guard ∷ cuts) test units u
  cut_step xs scene name new span guard cuts says r test units u met rest = go (is_empty r.low r.high) refl
    where
      wrap : (v : Value) → value_at here scene (guard_term guard) ≡ Some v → is_empty r.low r.high ≡ false
          → Cuts xs scene name (cut_by guard v r) cuts test units u → Cuts xs scene name r (guard ∷ cuts) test units u
      wrap v is full (inl to) = inl (inr (full, (v, is, to)))
      wrap v is full (inr more) = inr (more.0, inr (full, (v, is, more.1)), more.2, more.3)

      go : (b : Bool) → is_empty r.low r.high ≡ b → Cuts xs scene name r (guard ∷ cuts) test units u
      go true e = inl (inl (e, refl))
      go false e =
          let m =
          met_through span here (at scene name r.low) (guard_term guard)
          (λ v. if passes guard r.low v then behind (FirstUnmet span) AllMet here (at scene name r.low) cuts r.low
          (test r.low) else AllMet)
          (met r.low (first_within r.low r.high e)) in
          let is = outside xs scene name r.low new (guard_term guard) (type_of_cut guard) says m.0 m.1 in
          wrap m.0 is e (rest m.0 is)

  cuts_to : (xs : List Parameter) → (scene : Scene) (name : Name) → type_in xs name ≡ None → (span : Span) (cuts : List Cut)
      → AreGoodCuts h speech xs cuts → (r : Range) (test : ℤ → Finding) (units : ℤ → Location → ℕ) (u : Location → ℕ)
      → ((i : ℤ) → within r.low r.high i ≡ true → behind (FirstUnmet span) AllMet here (at scene name i) cuts i (test i)
      ≡ AllMet)
      → ((i : ℤ) → within r.low r.high i ≡ true → (l : Location) → behind 0 0 here (at scene name i) cuts i (units i l) ≤ u l)
      → Cuts xs scene name r cuts test units u
  cuts_to xs scene name new span [] good r test units u met most = inr (r, refl, met, most)
  cuts_to xs scene name new span (guard ∷ cuts) good r test units u met most =
      cut_step xs scene name new span guard cuts good.0 r test units u met
      (λ v is. cuts_to xs scene name new span cuts good.1 (cut_by guard v r) test units u
      (λ i w. let past = cut_passes guard v r i w in sym (passed xs (FirstUnmet span) AllMet scene name new guard good.0 v is cuts
      i (test i) past.1) ∙ met i past.0)
      (λ i w l. let past = cut_passes guard v r i w in
      subst (λ n. n ≤ u l) (passed xs 0 0 scene name new guard good.0 v is cuts i (units i l) past.1) (most i past.0 l)))

  fixed_there : (xs : List Parameter) → {A : Type 0} (v : Value) (x y : A) → v ≡ value.Number (number_in v)
      → (if equality true (value.Number (number_in v)) v then x else y) ≡ x
  fixed_there xs v x y is =
      ap (λ w. if equality true (value.Number (number_in v)) w then x else y) is
      ∙ ap (λ b. if b then x else y) (number_self (number_in v))

  when_owned : (xs : List Parameter) → (scene : Scene) (e : Expression) (f : Formula) (span : Span) (v : Value)
      → value_at here scene e ≡ Some v
      → (if truth_in v then unmet here scene f else AllMet) ≡ AllMet
      → (u : Location → ℕ) → ((l : Location) → (if truth_in v then units_in here scene l f else 0) ≤ u l)
      → (unmet here scene f ≡ AllMet → ((l : Location) → units_in here scene l f ≤ u l)
      → Owns h.program flags here scene f (asked heap u))
      → Owns h.program flags here scene (When e f span) (asked heap u)
  when_owned xs scene e f span v is met u most owns = go (truth_in v) refl met most
    where
      go : (b : Bool) → truth_in v ≡ b → (if b then unmet here scene f else AllMet) ≡ AllMet
          → ((l : Location) → (if b then units_in here scene l f else 0) ≤ u l)
          → Owns h.program flags here scene (When e f span) (asked heap u)
      go true t m n = when_on v is t (owns m n)
      go false t m n = when_off v is t

  guarded : (xs : List Parameter) → (scene : Scene) (name : Name) (r : Range) (cuts : List Cut) (item : Item) (span : Span)
      (u : Location → ℕ)
      → Cuts xs scene name r cuts (λ i. unmet_item here (at scene name i) i item)
      (λ i l. units_in_item here (at scene name i) l i item) u
      → ((x : Range) → ((i : ℤ) → within x.low x.high i ≡ true → unmet_item here (at scene name i) i item ≡ AllMet)
      → ((i : ℤ) → within x.low x.high i ≡ true → (l : Location) → units_in_item here (at scene name i) l i item ≤ u l)
      → OwnsItem h.program flags here scene name x item (asked heap u))
      → OwnsItem h.program flags here scene name r (Guarded cuts item span) (asked heap u)
  guarded xs scene name r cuts item span u (inl to) owns = cut_off to
  guarded xs scene name r cuts item span u (inr more) owns = cut more.0 more.1 (owns more.0 more.2 more.3)

  fixed_or : (xs : List Parameter) → (scene : Scene) (name : Name) (r : Range) (e : Expression) (f : Formula) (span : Span)
      (v : Value)
      → value_at here scene e ≡ Some v → (R : Amounts)
      → (within r.low r.high (number_in v) ≡ true → Owns h.program flags here (at scene name (number_in v)) f R)
      → OwnsItem h.program flags here scene name r (Fixed e f span) R
  fixed_or xs scene name r e f span v is R owns = go (within r.low r.high (number_in v)) refl
    where
      go : (b : Bool) → within r.low r.high (number_in v) ≡ b → OwnsItem h.program flags here scene name r (Fixed e f span) R
      go true w = fixed v is w (owns w)
      go false w = beside v is w

  mutual
    pub met_owns : (xs : List Parameter) → (scene : Scene) → SceneFits h speech xs heap scene → (f : Formula)
        → IsGood h speech xs f → is_plain f ≡ true
        → unmet here scene f ≡ AllMet
        → (u : Location → ℕ) → ((l : Location) → units_in here scene l f ≤ u l)
        → Owns h.program flags here scene f (asked heap u)
    met_owns xs scene fits (Fact e span) good plain met u most =
        let v =
        met_through span here scene e (λ v. unless (truth_in v) span) met in
        fact v.0 v.1 (is_met_there (truth_in v.0) span v.2)
    met_owns xs scene fits (FieldPermission e class name type amount span) good plain met u most =
        let o =
        met_through span here scene e (λ o. unless (is_some (heap.value (location.Field (reference_in o) name))) span) met
        in
        let is = is_met_there (is_some (heap.value (location.Field (reference_in o.0) name))) span o.2 in
        let named =
        class_is o.0 class name (has_type h speech xs heap scene fits heap heap (holding_now h heap typed)
        (holding_now h heap typed) e
        (Object class) good.0 o.0 o.1) is in
        field o.0 o.1 (named, is) (field_asked u o.0 class name amount is named
        (units_self (u (location.Field (reference_in o.0) name)) (location.Field (reference_in o.0) name) amount
        (subst (λ n. n ≤ u (location.Field (reference_in o.0) name)) (value_then 0 here scene e o.0 _ o.1)
        (most (location.Field (reference_in o.0) name)))))
    met_owns xs scene fits (ElementPermission type array index amount span) good plain met u most =
        let a =
        met_through span here scene array (λ a. value_or (FirstUnmet span) here scene index
        (λ i. unless (is_some (heap.value (location.Cell (reference_in a) (number_in i)))) span)) met in
        let i =
        met_through span here scene index
        (λ i. unless (is_some (heap.value (location.Cell (reference_in a.0) (number_in i)))) span) a.2 in
        let is = is_met_there (is_some (heap.value (location.Cell (reference_in a.0) (number_in i.0)))) span i.2 in
        let t =
        has_type h speech xs heap scene fits heap heap (holding_now h heap typed) (holding_now h heap typed) array
        (array_of type) good.0 a.0 a.1 in
        element a.0 i.0 a.1 i.1 (element_placed type good.2 a.0 (number_in i.0) t is)
        (element_asked u type good.2 a.0 (number_in i.0) amount t is
        (units_self (u (location.Cell (reference_in a.0) (number_in i.0)))
        (location.Cell (reference_in a.0) (number_in i.0)) amount
        (subst (λ n. n ≤ u (location.Cell (reference_in a.0) (number_in i.0)))
        (value_then 0 here scene array a.0 _ a.1 ∙ value_then 0 here scene index i.0 _ i.1)
        (most (location.Cell (reference_in a.0) (number_in i.0))))))
    met_owns xs scene fits (Holds token class e span) good plain met u most = absurd (cc plain)
    met_owns xs scene fits (Instance class name e arguments span) good plain met u most = absurd (cc plain)
    met_owns xs scene fits (Star a b) good plain met u most =
        let m = both_met (unmet here scene a) (unmet here scene b) met in
        star (asked heap (λ l. units_in here scene l a)) (asked heap (λ l. units_in here scene l b))
        (met_owns xs scene fits a good.0 (front (is_plain a) (is_plain b) plain) m.0 (λ l. units_in here scene l a)
        (λ l. omega arith))
        (met_owns xs scene fits b good.1 (back (is_plain a) (is_plain b) plain) m.1 (λ l. units_in here scene l b)
        (λ l. omega arith))
        (asked_sum heap _ _ u most)
    met_owns xs scene fits (When e f span) good plain met u most =
        let v = met_through span here scene e (λ v. if truth_in v then unmet here scene f else AllMet) met in
        when_owned xs scene e f span v.0 v.1 v.2 u (λ l. subst (λ n. n ≤ u l) (value_then 0 here scene e v.0 _ v.1) (most l))
        (λ m n. met_owns xs scene fits f good.1 plain m u n)
    met_owns xs scene fits (Each name low high items span) good plain met u most =
        let a =
        met_through span here scene low (λ a. value_or (FirstUnmet span) here scene high
        (λ b. at_each (λ i. unmet_items here (at scene name i) i items) (number_in a) (width (number_in a) (number_in b))))
        met in
        let b =
        met_through span here scene high (λ b. at_each (λ i. unmet_items here (at scene name i) i items) (number_in a.0)
        (width (number_in a.0) (number_in b))) a.2 in
        each a.0 b.0 a.1 b.1 (met_items xs scene fits name good.2 (number_in a.0) (number_in b.0) items good.3 plain
        (λ i w. each_met (λ i. unmet_items here (at scene name i) i items) (width (number_in a.0) (number_in b.0))
        (number_in a.0) i b.2
        (front (int_le (number_in a.0) i) (int_lt i (number_in b.0)) w) (in_width (number_in a.0) (number_in b.0) i w))
        u (λ l. subst (λ n. n ≤ u l) (value_then 0 here scene low a.0 _ a.1 ∙ value_then 0 here scene high b.0 _ b.1) (most l)))

    pub met_items : (xs : List Parameter) → (scene : Scene) → SceneFits h speech xs heap scene → (name : Name) → type_in xs name
        ≡ None
        → (low high : ℤ) (items : Items) → AreGoodItems h speech xs name items
        → are_plain items ≡ true → ((i : ℤ) → within low high i ≡ true → unmet_items here (at scene name i) i items ≡ AllMet)
        → (u : Location → ℕ) → ((l : Location) → sum_of_each (λ i. units_in_items here (at scene name i) l i items) low
        (width low high) ≤ u l)
        → OwnsItems h.program flags here scene name low high items (asked heap u)
    met_items xs scene fits name new low high NoItems good plain met u most = no_items
    met_items xs scene fits name new low high (Join item items) good plain met u most =
        joined (asked heap (λ l. sum_of_each (λ i. units_in_item here (at scene name i) l i item) low (width low high)))
        (asked heap (λ l. sum_of_each (λ i. units_in_items here (at scene name i) l i items) low (width low high)))
        (met_item xs scene fits name new (range_of low high) item good.0 (front (is_plain_item item) (are_plain items) plain)
        (λ i w. (both_met (unmet_item here (at scene name i) i item) (unmet_items here (at scene name i) i items) (met i w)).0)
        (λ l. sum_of_each (λ i. units_in_item here (at scene name i) l i item) low (width low high))
        (λ i w l. sum_within (λ i. units_in_item here (at scene name i) l i item) low high i w))
        (met_items xs scene fits name new low high items good.1 (back (is_plain_item item) (are_plain items) plain)
        (λ i w. (both_met (unmet_item here (at scene name i) i item) (unmet_items here (at scene name i) i items) (met i w)).1)
        (λ l. sum_of_each (λ i. units_in_items here (at scene name i) l i items) low (width low high)) (λ l. omega arith))
        (asked_sum heap (λ l. sum_of_each (λ i. units_in_item here (at scene name i) l i item) low (width low high))
        (λ l. sum_of_each (λ i. units_in_items here (at scene name i) l i items) low (width low high)) u
        (λ l. let two = sum_of_two (λ i. units_in_item here (at scene name i) l i item)
        (λ i. units_in_items here (at scene name i) l i items) (width low high) low in
        let k : sum_of_each (λ i. units_in_item here (at scene name i) l i item + units_in_items here
        (at scene name i) l i items) low (width low high) ≤ u l = most l in omega (arith, two, k)))

    -- an item asks for one location at most once: what it asks for at each position suffices
    pub met_item : (xs : List Parameter) → (scene : Scene) → SceneFits h speech xs heap scene → (name : Name) → type_in xs name
        ≡ None
        → (r : Range) (item : Item) → IsGoodItem h speech xs name item
        → is_plain_item item ≡ true → ((i : ℤ) → within r.low r.high i ≡ true → unmet_item here (at scene name i) i item
        ≡ AllMet)
        → (u : Location → ℕ) → ((i : ℤ) → within r.low r.high i ≡ true → (l : Location)
        → units_in_item here (at scene name i) l i item ≤ u l)
        → OwnsItem h.program flags here scene name r item (asked heap u)
    met_item xs scene fits name new r (Elements type array shift amount span) good plain met u most =
        full_or h.program flags here (is_empty r.low r.high) refl
        (λ full. let a = met_through span here (at scene name r.low) array
        (λ a. unless (is_some (heap.value (location.Cell (reference_in a) (r.low +ℤ shift)))) span)
        (met r.low (first_within r.low r.high full)) in
        let is = outside xs scene name r.low new array (array_of type) good.0 a.0 a.1 in
        let t =
        has_type h speech xs heap scene fits heap heap (holding_now h heap typed) (holding_now h heap typed) array
        (array_of type) good.0 a.0 is in
        elements a.0 is (λ j w.
        let i = unshifted r.low r.high shift j w in
        let same : j -ℤ shift +ℤ shift ≡ j = omega (arith, ints) in
        let m =
        sym (steady_value h speech xs name (j -ℤ shift) new (FirstUnmet span) here scene array
        (array_of type) good.0 a.0 _ is) ∙ met (j -ℤ shift) i in
        let there =
        subst (λ z. IsSome (heap.value (location.Cell (reference_in a.0) z))) same
        (is_met_there (is_some (heap.value (location.Cell (reference_in a.0) (j -ℤ shift +ℤ shift)))) span m) in
        let k =
        subst (λ n. n ≤ u (location.Cell (reference_in a.0) j))
        (steady_value h speech xs name (j -ℤ shift) new 0 here scene array (array_of type) good.0 a.0 _ is)
        (most (j -ℤ shift) i (location.Cell (reference_in a.0) j)) in (
          element_placed type good.1 a.0 j t there,
          element_asked u type good.1 a.0 j amount t there
              (units_self (u (location.Cell (reference_in a.0) j)) (location.Cell (reference_in a.0) j) amount
              (subst (λ z. units_at (location.Cell (reference_in a.0) z) (location.Cell (reference_in a.0) j) amount ≤ u
              (location.Cell (reference_in a.0) j)) same k)),
        )))
    met_item xs scene fits name new r (Repeated e span) good plain met u most =
        repeated (λ i w. let v = met_through span here (at scene name i) e (λ v. unless (truth_in v) span) (met i w) in
        (v.0, v.1, is_met_there (truth_in v.0) span v.2))
    met_item xs scene fits name new r (Committed class e span) good plain met u most = absurd (cc plain)
    met_item xs scene fits name new r (Guarded cuts item span) good plain met u most =
        guarded xs scene name r cuts item span u
        (cuts_to xs scene name new span cuts good.0 r (λ i. unmet_item here (at scene name i) i item)
        (λ i l. units_in_item here (at scene name i) l i item) u met most)
        (λ x m n. met_item xs scene fits name new x item good.1 plain m u n)
    met_item xs scene fits name new r (Fixed e f span) good plain met u most =
        full_or h.program flags here (is_empty r.low r.high) refl
        (λ full. let v = met_through span here (at scene name r.low) e
        (λ v. if equality true (value.Number r.low) v then unmet here (at scene name r.low) f else AllMet)
        (met r.low (first_within r.low r.high full)) in
        let is = outside xs scene name r.low new e Int good.0 v.0 v.1 in
        let number =
        is_number_value heap v.0 (has_type h speech xs heap scene fits heap heap (holding_now h heap typed)
        (holding_now h heap typed) e Int good.0 v.0
        is) in
        fixed_or xs scene name r e f span v.0 is (asked heap u) (λ w.
        met_owns ((name, Int) ∷ xs) (at scene name (number_in v.0)) (position_fits h speech xs heap scene name
        (number_in v.0) fits) f good.1 plain
        (sym (fixed_there xs v.0 (unmet here (at scene name (number_in v.0)) f) AllMet number)
        ∙ (sym (steady_value h speech xs name (number_in v.0) new (FirstUnmet span) here scene e Int good.0 v.0 _ is)
        ∙ met (number_in v.0) w))
        u (λ l. subst (λ n. n ≤ u l)
        (steady_value h speech xs name (number_in v.0) new 0 here scene e Int good.0 v.0 _ is
        ∙ fixed_there xs v.0 (units_in here (at scene name (number_in v.0)) l f) 0 number)
        (most (number_in v.0) w l))))
