-- What amounts suffice for is met.
use Rattle.std.proofs.Common.{◌≡◌, inl, inr, ℕ, zero, suc, ℤ, pos, negsuc, Bool, true, false, if◌then◌else◌, Option, Some, None, IsSome, List, [], ◌∷◌, refl, ap, sym, subst, ◌∙◌, arith}
use Rattle.std.specs.Prelude.{is_some, int_le, int_lt, ◌+ℤ◌, ◌-ℤ◌}
use Rattle.std.proofs.lemmas.Int.{ints, clamps}
use Rattle.std.proofs.lemmas.Option.{same_Some, none-some}
use Rattle.pv_base.specs.declared.Name.{Name}
use Rattle.pv_base.specs.declared.Span.{Span}
use Rattle.pv_ast.specs.declared.PvType.{PvType}
use Rattle.pv_ast.specs.declared.PvType.TheVariants.{Int, Object}
use Rattle.pv_values.specs.declared.value.Value.{Value}
use Rattle.pv_values.specs.declared.value.Value.TheVariants as value
use Rattle.pv_values.specs.declared.value.Location.TheVariants as location
use Rattle.pv_values.specs.Heaps.{same_number}
use Rattle.pv_picks.specs.Plain.Core.{Cut, Below, UpTo, Above, From, Provided, Expression, Formula, Fact, FieldPermission, ElementPermission, Holds, Instance, Star, When, Each, Items, NoItems, Join, Item, Elements, Repeated, Committed, Guarded, Fixed, Parameter, Program}
use Rattle.pv_picks.specs.Formulas.Values.{number_in, truth_in, reference_in, equality, array_of, within, or_zero, width, is_empty}
use Rattle.pv_picks.specs.Formulas.Evaluation.{Scene}
use Rattle.pv_picks.specs.Formulas.Meeting.{Sight, Finding, AllMet, FirstUnmet, at, value_or, unless, first_of, at_each, passes, guard_term, behind, unmet, unmet_items, unmet_item}
use Rattle.pv_picks.specs.Judge.Repetitions.{Range, range_of, cut_by}
use Rattle.pv_picks.specs.Typing.Expressions.{Home, Speech, type_in, Says}
use Rattle.account_formulas.specs.Sights.{value_at}
use Rattle.account_formulas.specs.Good.{IsGood, AreGoodItems, IsGoodItem, AreGoodCuts, type_of_cut}
use Rattle.account_formulas.specs.Owning.{Amounts, Owns, Owns.fact, Owns.field, Owns.element, Owns.holds, Owns.known, Owns.folded, Owns.star, Owns.when_on, Owns.when_off, Owns.each, OwnsItems, OwnsItems.no_items, OwnsItems.joined, OwnsItem, OwnsItem.nothing, OwnsItem.elements, OwnsItem.repeated, OwnsItem.committed, OwnsItem.cut_off, OwnsItem.cut, OwnsItem.fixed, OwnsItem.beside, CutsTo}
use Rattle.pv_picks.proofs.Sames.{front, back, numbers_same}
use Rattle.account_formulas.proofs.Basics.{both, not_false}
use Rattle.account_formulas.proofs.Valuing.{value_then, values_then}
use Rattle.account_formulas.proofs.Steady.{steady}

-- the value at a position
pub steady_value : {R : Type 0} (h : Home) (speech : Speech) (xs : List Parameter) (name : Name) (i : ℤ) → type_in xs name ≡ None
    → (stop : R) (sight : Sight) (scene : Scene) (e : Expression) (type : PvType)
    → Says h speech xs e type → (v : Value) (k : Value → R) → value_at sight scene e ≡ Some v
    → value_or stop sight (at scene name i) e k ≡ k v
steady_value h speech xs name i new stop sight scene e type says v k is =
    steady h speech xs name i new scene _ _ e type says k k (λ v. refl) ∙ value_then stop sight scene e v k is

-- Ranges

pub at_each_none : (test : ℤ → Finding) (n : ℕ) (low : ℤ)
    → ((i : ℤ) → int_le low i ≡ true → int_lt i (low +ℤ pos n) ≡ true → test i ≡ AllMet) → at_each test low n ≡ AllMet
at_each_none test zero low f = refl
at_each_none test (suc n) low f = ap (λ o. first_of o (at_each test (low +ℤ pos 1) n))
    (f low (not_false (int_le low low) (λ z. omega (arith, ints)))
    (not_false (int_lt low (low +ℤ pos (suc n))) (λ z. omega (arith, ints))))
    ∙ at_each_none test n (low +ℤ pos 1) (λ i a b. f i (not_false (int_le low i) (λ z. omega (arith, ints)))
    (not_false (int_lt i (low +ℤ pos (suc n))) (λ z. omega (arith, ints))))

in_range : (low high i : ℤ) → int_le low i ≡ true → int_lt i (low +ℤ pos (width low high)) ≡ true → within low high i ≡ true
in_range low high i a b = both _ _ a (go (high -ℤ low) refl b)
  where
    go : (d : ℤ) → high -ℤ low ≡ d → int_lt i (low +ℤ pos (or_zero d)) ≡ true → int_lt i high ≡ true
    go (pos n) e k = not_false (int_lt i high) (λ z. omega (arith, ints))
    go (negsuc n) e k = absurd (omega (arith, ints))

pub each_none : (test : ℤ → Finding) (low high : ℤ) → ((i : ℤ) → within low high i ≡ true → test i ≡ AllMet)
    → at_each test low (width low high) ≡ AllMet
each_none test low high f = at_each_none test (width low high) low (λ i a b. f i (in_range low high i a b))

pub empty_no : {A : Type 0} (low high i : ℤ) → is_empty low high ≡ true → within low high i ≡ true → A
empty_no low high i e w =
    let a = front (int_le low i) (int_lt i high) w in let b =
    back (int_le low i) (int_lt i high) w in absurd (omega (arith, ints))

pub shifted_within : (low high i shift : ℤ) → within low high i ≡ true → within (low +ℤ shift) (high +ℤ shift) (i +ℤ shift) ≡ true
shifted_within low high i shift w =
    let a = front (int_le low i) (int_lt i high) w in let b = back (int_le low i) (int_lt i high) w in
    both _ _ (not_false (int_le (low +ℤ shift) (i +ℤ shift)) (λ z. omega (arith, ints)))
    (not_false (int_lt (i +ℤ shift) (high +ℤ shift)) (λ z. omega (arith, ints)))

-- a position that a guard lets through is in what it leaves
pub cut_within : (k : Cut) (v : Value) (r : Range) (i : ℤ) → within r.low r.high i ≡ true → passes k i v ≡ true
    → within (cut_by k v r).low (cut_by k v r).high i ≡ true
cut_within (Below e) v r i w h =
    let a = front (int_le r.low i) (int_lt i r.high) w in let b = back (int_le r.low i) (int_lt i r.high) w in
    both _ _ a (not_false (int_lt i (cut_by (Below e) v r).high) (λ z. omega (arith, ints, clamps)))
cut_within (UpTo e) v r i w h =
    let a = front (int_le r.low i) (int_lt i r.high) w in let b = back (int_le r.low i) (int_lt i r.high) w in
    both _ _ a (not_false (int_lt i (cut_by (UpTo e) v r).high) (λ z. omega (arith, ints, clamps)))
cut_within (Above e) v r i w h =
    let a = front (int_le r.low i) (int_lt i r.high) w in let b = back (int_le r.low i) (int_lt i r.high) w in
    both _ _ (not_false (int_le (cut_by (Above e) v r).low i) (λ z. omega (arith, ints, clamps))) b
cut_within (From e) v r i w h =
    let a = front (int_le r.low i) (int_lt i r.high) w in let b = back (int_le r.low i) (int_lt i r.high) w in
    both _ _ (not_false (int_le (cut_by (From e) v r).low i) (λ z. omega (arith, ints, clamps))) b
cut_within (Provided e) v r i w h = go (truth_in v) h
  where
    go : (b : Bool) → b ≡ true → within (if b then r else record r { high = r.low }).low
        (if b then r else record r { high = r.low }).high i ≡ true
    go true e = w
    go false e = absurd (cc e)

module _ (h : Home) (speech : Speech) (p : Program) (flags : ℕ → Bool) where
  -- guards that leave nothing keep each position out; others lead to what they leave
  behind_none : (xs : List Parameter) → (name : Name) → type_in xs name ≡ None
      → (sight : Sight) (scene : Scene) (span : Span) (i : ℤ) (rest : Finding) (cuts : List Cut) → AreGoodCuts h speech xs cuts
      → (r : Range) (last : Option Range) → CutsTo sight scene cuts r last → within r.low r.high i ≡ true
      → ((x : Range) → last ≡ Some x → within x.low x.high i ≡ true → rest ≡ AllMet)
      → behind (FirstUnmet span) AllMet sight (at scene name i) cuts i rest ≡ AllMet
  behind_none xs name new sight scene span i rest [] good r last to w f = f r to w
  behind_none xs name new sight scene span i rest (guard ∷ cuts) good r last (inl to) w f = empty_no r.low r.high i to.0 w
  behind_none xs name new sight scene span i rest (guard ∷ cuts) good r last (inr to) w f =
      steady_value h speech xs name i new (FirstUnmet span) sight scene (guard_term guard)
      (type_of_cut guard) good.0 to.1.0 _ to.1.1
      ∙ go (λ e. behind_none xs name new sight scene span i rest cuts good.1 (cut_by guard to.1.0 r) last to.1.2
      (cut_within guard to.1.0 r i w e) f) (passes guard i to.1.0) refl
    where
      go : (passes guard i to.1.0 ≡ true → behind (FirstUnmet span) AllMet sight (at scene name i) cuts i rest ≡ AllMet)
          → (b : Bool) → passes guard i to.1.0 ≡ b
          → (if b then behind (FirstUnmet span) AllMet sight (at scene name i) cuts i rest else AllMet) ≡ AllMet
      go g true e = g e
      go g false e = refl

  there : {A : Type 0} (o : Option A) (span : Span) → IsSome o → unless (is_some o) span ≡ AllMet
  there None span is = absurd (cc is)
  there (Some x) span is = refl

  holds_none : (b : Bool) (span : Span) → b ≡ true → unless b span ≡ AllMet
  holds_none true span is = refl
  holds_none false span is = absurd (cc is)

  fixed_none : (i : ℤ) (v : Value) (x : Finding) → (i ≡ number_in v → x ≡ AllMet)
      → (if equality true (value.Number i) v then x else AllMet) ≡ AllMet
  fixed_none i (value.Number z) x f = go (same_number i z) refl
    where
      go : (b : Bool) → same_number i z ≡ b → (if b then x else AllMet) ≡ AllMet
      go true e = f (numbers_same i z e)
      go false e = refl
  fixed_none i (value.Truth b) x f = refl
  fixed_none i (value.Reference n) x f = refl

  mutual
    pub is_met : (xs : List Parameter) → (sight : Sight) (scene : Scene) (f : Formula) → IsGood h speech xs f → (R : Amounts)
        → Owns p flags sight scene f R → unmet sight scene f ≡ AllMet
    is_met xs sight scene (Fact e span) good R (fact v is_v is) =
        value_then (FirstUnmet span) sight scene e v _ is_v ∙ holds_none (truth_in v) span is
    is_met xs sight scene (FieldPermission e class name type amount span) good R (field o is_o placed enough) =
        value_then (FirstUnmet span) sight scene e o _ is_o
        ∙ there (sight.now.value (location.Field (reference_in o) name)) span placed.1
    is_met xs sight scene (ElementPermission type array index amount span) good R (element a i is_a is_i placed enough) =
        value_then (FirstUnmet span) sight scene array a _ is_a ∙ value_then (FirstUnmet span) sight scene index i _ is_i
        ∙ there (sight.now.value (location.Cell (reference_in a) (number_in i))) span placed.1
    is_met xs sight scene (Holds t class e span) good R (holds o is_o apart placed enough) =
        value_then (FirstUnmet span) sight scene e o _ is_o
    is_met xs sight scene (Holds t class e span) good R (known o is_o is flagged) =
        value_then (FirstUnmet span) sight scene e o _ is_o
    is_met xs sight scene (Instance class name e arguments span) good R (folded o vs d is_o is_vs named owns) =
        value_then (FirstUnmet span) sight scene e o _ is_o ∙ values_then (FirstUnmet span) sight scene arguments vs _ is_vs
    is_met xs sight scene (Star a b) good R (star A B first second parts) =
        ap (λ o. first_of o (unmet sight scene b)) (is_met xs sight scene a good.0 A first)
        ∙ is_met xs sight scene b good.1 B second
    is_met xs sight scene (When e f span) good R (when_on v is_v is owns) =
        value_then (FirstUnmet span) sight scene e v _ is_v ∙ ap (λ b. if b then unmet sight scene f else AllMet) is
        ∙ is_met xs sight scene f good.1 R owns
    is_met xs sight scene (When e f span) good R (when_off v is_v is) =
        value_then (FirstUnmet span) sight scene e v _ is_v ∙ ap (λ b. if b then unmet sight scene f else AllMet) is
    is_met xs sight scene (Each name low high items span) good R (each l u is_l is_u owns) =
        value_then (FirstUnmet span) sight scene low l _ is_l ∙ value_then (FirstUnmet span) sight scene high u _ is_u
        ∙ each_none (λ i. unmet_items sight (at scene name i) i items) (number_in l) (number_in u)
        (λ i w. are_met xs sight scene name good.2 (number_in l) (number_in u) items good.3 R owns i w)

    pub are_met : (xs : List Parameter) → (sight : Sight) (scene : Scene) (name : Name) → type_in xs name ≡ None
        → (low high : ℤ) (items : Items)
        → AreGoodItems h speech xs name items → (R : Amounts)
        → OwnsItems p flags sight scene name low high items R → (i : ℤ) → within low high i ≡ true
        → unmet_items sight (at scene name i) i items ≡ AllMet
    are_met xs sight scene name new low high NoItems good R no_items i w = refl
    are_met xs sight scene name new low high (Join item items) good R (joined A B first second parts) i w =
        ap (λ o. first_of o (unmet_items sight (at scene name i) i items))
        (item_met xs sight scene name new (range_of low high) item good.0 A first i w)
        ∙ are_met xs sight scene name new low high items good.1 B second i w

    pub item_met : (xs : List Parameter) → (sight : Sight) (scene : Scene) (name : Name) → type_in xs name ≡ None
        → (r : Range) (item : Item)
        → IsGoodItem h speech xs name item → (R : Amounts)
        → OwnsItem p flags sight scene name r item R → (i : ℤ) → within r.low r.high i ≡ true
        → unmet_item sight (at scene name i) i item ≡ AllMet
    item_met xs sight scene name new r item good R (nothing e) i w = empty_no r.low r.high i e w
    item_met xs sight scene name new r (Elements type array shift amount span) good R (elements a is_a facts) i w =
        steady_value h speech xs name i new (FirstUnmet span) sight scene array (array_of type) good.0 a _ is_a
        ∙ there (sight.now.value (location.Cell (reference_in a) (i +ℤ shift))) span
        (facts (i +ℤ shift) (shifted_within r.low r.high i shift w)).0.1
    item_met xs sight scene name new r (Repeated e span) good R (repeated facts) i w =
        let f = facts i w in value_then (FirstUnmet span) sight (at scene name i) e f.0 _ f.1 ∙ holds_none (truth_in f.0) span f.2
    item_met xs sight scene name new r (Committed class e span) good R (committed o is_o flagged) i w =
        steady_value h speech xs name i new (FirstUnmet span) sight scene e (Object class) good o _ is_o
    item_met xs sight scene name new r (Guarded cuts item span) good R (cut_off to) i w =
        behind_none xs name new sight scene span i _ cuts good.0 r None to w (λ x is w. absurd (none-some x is))
    item_met xs sight scene name new r (Guarded cuts item span) good R (cut x to owns) i w =
        behind_none xs name new sight scene span i _ cuts good.0 r (Some x) to w
        (λ y is w. item_met xs sight scene name new x item good.1 R owns i
        (subst (λ z. within z.low z.high i ≡ true) (sym (same_Some x y is)) w))
    item_met xs sight scene name new r (Fixed e f span) good R (fixed v is_v inside owns) i w =
        steady_value h speech xs name i new (FirstUnmet span) sight scene e Int good.0 v _ is_v
        ∙ fixed_none i v _ (λ same. subst (λ z. unmet sight (at scene name z) f ≡ AllMet) (sym same)
        (is_met ((name, Int) ∷ xs) sight (at scene name (number_in v)) f good.1 R owns))
    item_met xs sight scene name new r (Fixed e f span) good R (beside v is_v outside) i w =
        steady_value h speech xs name i new (FirstUnmet span) sight scene e Int good.0 v _ is_v
        ∙ fixed_none i v _ (λ same. let here = subst (λ z. within r.low r.high z ≡ true) same w in absurd (cc (here, outside)))
