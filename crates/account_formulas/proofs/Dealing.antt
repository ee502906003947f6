-- What amounts suffice for at all positions of a range is dealt to the positions, and gathered from them again.
use Rattle.std.proofs.Common.{◌≡◌, ◌⊎◌, inl, inr, ℕ, zero, suc, ◌+◌, ◌≤◌, ℤ, pos, Bool, true, false, if◌then◌else◌, Option, Some, None, List, [], ◌∷◌, refl, ap, sym, subst, ◌∙◌, arith}
use Rattle.std.specs.Prelude.{int_le, int_lt, ◌+ℤ◌, ◌-ℤ◌}
use Rattle.std.proofs.lemmas.Int.{ints, clamps}
use Rattle.std.proofs.lemmas.Option.{same_Some, none-some}
use Rattle.pv_base.specs.declared.Name.{Name}
use Rattle.pv_base.specs.declared.Span.{Span}
use Rattle.pv_ast.specs.declared.PvType.{PvType}
use Rattle.pv_values.specs.declared.value.Value.{Value}
use Rattle.pv_values.specs.Heaps.{same_number}
use Rattle.pv_picks.specs.Plain.Core.{Cut, Below, UpTo, Above, From, Provided, Expression, Formula, Items, NoItems, Join, Item, Elements, Repeated, Committed, Guarded, Fixed, Program}
use Rattle.pv_picks.specs.Formulas.Values.{number_in, truth_in, reference_in, within, is_empty, width}
use Rattle.pv_picks.specs.Formulas.Evaluation.{Scene}
use Rattle.pv_picks.specs.Formulas.Meeting.{Sight, at, passes, guard_term, sum_of_each}
use Rattle.pv_picks.specs.Judge.Repetitions.{Range, range_of, cut_by}
use Rattle.pv_picks.specs.Judge.States.{Resource, InField, InElement, OfToken, OfLock, same_resource}
use Rattle.account_formulas.specs.Sights.{value_at}
use Rattle.account_formulas.specs.Owning.{Amounts, IsPlaced, Owns, Owns.fact, Owns.field, Owns.element, Owns.holds, Owns.known, Owns.folded, Owns.star, Owns.when_on, Owns.when_off, Owns.each, OwnsItems, OwnsItems.no_items, OwnsItems.joined, OwnsItem, OwnsItem.nothing, OwnsItem.elements, OwnsItem.repeated, OwnsItem.committed, OwnsItem.cut_off, OwnsItem.cut, OwnsItem.fixed, OwnsItem.beside, CutsTo}
use Rattle.pv_picks.proofs.Sames.{front, back, numbers_same, resources_same}
use Rattle.account_formulas.specs.Forms.{DealtItems}
use Rattle.account_formulas.proofs.Basics.{both, not_false, number_self, first_within, only, only_self}
use Rattle.account_formulas.proofs.Meeting.{cut_within, empty_no, shifted_within}
use Rattle.account_formulas.proofs.Sums.{unshifted, sum_of_two, sum_within, cut_passes}

-- One position

pub record IsOne (y : Range) (i : ℤ) : Type 0 where
  pub low : y.low ≡ i
  pub high : y.high ≡ i +ℤ pos 1

pub one_is : (y : Range) (i j : ℤ) → IsOne y i → within y.low y.high j ≡ true → j ≡ i
one_is y i j one w =
    let a = front (int_le y.low j) (int_lt j y.high) w in let b = back (int_le y.low j) (int_lt j y.high) w in let c =
    one.low in let d = one.high in omega (arith, ints)

pub one_within : (y : Range) (i : ℤ) → IsOne y i → within y.low y.high i ≡ true
one_within y i one =
    let c = one.low in let d = one.high in both _ _ (not_false (int_le y.low i) (λ z. omega (arith, ints))) (not_false
    (int_lt i y.high) (λ z. omega (arith, ints)))

pub one_full : (y : Range) (i : ℤ) → IsOne y i → is_empty y.low y.high ≡ false
one_full y i one = go (is_empty y.low y.high) refl
  where
    go : (b : Bool) → is_empty y.low y.high ≡ b → b ≡ false
    go true e = let c = one.low in let d = one.high in absurd (omega (arith, ints))
    go false e = refl

pub range_one : (i : ℤ) → IsOne (range_of i (i +ℤ pos 1)) i
range_one i = record { low = refl; high = refl }

-- a guard leaves a position alone or takes it away
pub cut_one : (k : Cut) (v : Value) (y : Range) (i : ℤ) → IsOne y i → passes k i v ≡ true → IsOne (cut_by k v y) i
cut_one (Below e) v y i one h = let d = one.high in record { low = one.low; high = omega (arith, ints, clamps) }
cut_one (UpTo e) v y i one h = let d = one.high in record { low = one.low; high = omega (arith, ints, clamps) }
cut_one (Above e) v y i one h = let d = one.low in record { low = omega (arith, ints, clamps); high = one.high }
cut_one (From e) v y i one h = let d = one.low in record { low = omega (arith, ints, clamps); high = one.high }
cut_one (Provided e) v y i one h = go (truth_in v) h
  where
    go : (b : Bool) → b ≡ true → IsOne (if b then y else record y { high = y.low }) i
    go true e = one
    go false e = absurd (cc e)

empty_from : (low high : ℤ) → ((i : ℤ) → within low high i ≡ true → ⊥) → is_empty low high ≡ true
empty_from low high none = go (is_empty low high) refl
  where
    go : (b : Bool) → is_empty low high ≡ b → b ≡ true
    go true e = refl
    go false e = absurd (none low (first_within low high e))

pub cut_none : (k : Cut) (v : Value) (y : Range) (i : ℤ) → IsOne y i → passes k i v ≡ false
    → is_empty (cut_by k v y).low (cut_by k v y).high ≡ true
cut_none k v y i one h = empty_from (cut_by k v y).low (cut_by k v y).high (λ j w.
    let past = cut_passes k v y j w in
    let same = one_is y i j one past.0 in
    let here = subst (λ z. passes k z v ≡ true) same past.1 in absurd (cc (here, h)))

-- Shares: of each resource one position has a share

abbrev pub IsShared : (ℤ → Amounts) → Amounts → Type 0
IsShared S R = (q : Resource) → (m : ℤ) × (S m q ≤ R q) × ((i : ℤ) → same_number i m ≡ false → S i q ≡ 0)

abbrev pub index_in : Resource → ℤ
index_in (InField c o n) = pos 0
index_in (InElement t a j) = j
index_in (OfToken t c o) = pos 0
index_in (OfLock c o) = pos 0

pub no_share : (R : Amounts) → IsShared (λ i q. 0) R
no_share R = λ q. (pos 0, omega arith, λ i e. refl)

differs : (i j : ℤ) → (i ≡ j → ⊥) → same_number i j ≡ false
differs i j apart = go (same_number i j) refl
  where
    go : (b : Bool) → same_number i j ≡ b → b ≡ false
    go true e = absurd (apart (numbers_same i j e))
    go false e = refl

sum_none : (f : ℤ → ℕ) (n : ℕ) (low : ℤ) → ((i : ℤ) → int_le low i ≡ true → f i ≡ 0) → sum_of_each f low n ≡ 0
sum_none f zero low none = refl
sum_none f (suc n) low none =
    let a = none low (not_false (int_le low low) (λ z. omega (arith, ints))) in
    let b =
    sum_none f n (low +ℤ pos 1) (λ i w. none i (not_false (int_le low i) (λ z. omega (arith, ints)))) in omega (arith, a, b)

sum_one : (f : ℤ → ℕ) (m : ℤ) → ((i : ℤ) → same_number i m ≡ false → f i ≡ 0) → (n : ℕ) (low : ℤ) → sum_of_each f low n ≤ f m
sum_one f m other zero low = omega arith
sum_one f m other (suc n) low = go (sum_one f m other n (low +ℤ pos 1)) (same_number low m) refl
  where
    go : sum_of_each f (low +ℤ pos 1) n ≤ f m → (b : Bool) → same_number low m ≡ b → f low + sum_of_each f (low +ℤ pos 1) n ≤ f m
    go more true e =
        let same = numbers_same low m e in
        let here = ap f same in
        let rest =
        sum_none f n (low +ℤ pos 1) (λ i w. other i (differs i m (λ z. omega (arith, ints)))) in omega (arith, here, rest)
    go more false e = let here = other low e in omega (arith, here, more)

pub shares_sum : (S : ℤ → Amounts) (R : Amounts) → IsShared S R → (n : ℕ) (low : ℤ) (q : Resource)
    → sum_of_each (λ i. S i q) low n ≤ R q
shares_sum S R shared n low q =
    let s = shared q in let k = sum_one (λ i. S i q) s.0 s.2 n low in let l = s.1 in omega (arith, k, l)

module _ (p : Program) (flags : ℕ → Bool) (sight : Sight) where
  -- More suffices

  mutual
    pub owns_more : {scene : Scene} {f : Formula} {R : Amounts} (T : Amounts) → ((q : Resource) → R q ≤ T q) → {at' : Sight}
        → Owns p flags at' scene f R → Owns p flags at' scene f T
    owns_more T more (fact v is t) = fact v is t
    owns_more T more (field {class = class} {name = name} o is placed enough) =
        field o is placed (let k = more (InField class (reference_in o) name) in omega (arith, k, enough))
    owns_more T more (element {type = type} a i is_a is_i placed enough) =
        element a i is_a is_i placed (let k = more (InElement type (reference_in a) (number_in i)) in omega (arith, k, enough))
    owns_more T more (holds {t = t} {class = class} o is apart named enough) =
        holds o is apart named (let k = more (OfToken t class (reference_in o)) in omega (arith, k, enough))
    owns_more T more (known o is is_c flagged) = known o is is_c flagged
    owns_more T more (folded o vs d is_o is_vs named owns) = folded o vs d is_o is_vs named (owns_more T more owns)
    owns_more T more (star A B first second parts) =
        star A B first second (λ q. let k = more q in let l = parts q in omega (arith, k, l))
    owns_more T more (when_on v is t owns) = when_on v is t (owns_more T more owns)
    owns_more T more (when_off v is t) = when_off v is t
    owns_more T more (each l u is_l is_u owns) = each l u is_l is_u (items_more T more owns)

    pub items_more : {scene : Scene} {name : Name} {low high : ℤ} {is : Items} {R : Amounts} (T : Amounts)
        → ((q : Resource) → R q ≤ T q) → {at' : Sight}
        → OwnsItems p flags at' scene name low high is R → OwnsItems p flags at' scene name low high is T
    items_more T more no_items = no_items
    items_more T more (joined A B first second parts) =
        joined A B first second (λ q. let k = more q in let l = parts q in omega (arith, k, l))

    pub item_more : {scene : Scene} {name : Name} {r : Range} {i : Item} {R : Amounts} (T : Amounts)
        → ((q : Resource) → R q ≤ T q) → {at' : Sight}
        → OwnsItem p flags at' scene name r i R → OwnsItem p flags at' scene name r i T
    item_more T more (nothing e) = nothing e
    item_more T more (elements {type = type} a is facts) =
        elements a is (λ i w. let f = facts i w in (
          f.0,
          let k = more (InElement type (reference_in a) i) in let l = f.1 in
              omega (arith, k, l),
        ))
    item_more T more (repeated facts) = repeated facts
    item_more T more (committed o is flagged) = committed o is flagged
    item_more T more (cut_off to) = cut_off to
    item_more T more (cut x to owns) = cut x to (item_more T more owns)
    item_more T more (fixed v is w owns) = fixed v is w (owns_more T more owns)
    item_more T more (beside v is w) = beside v is w

  -- Deal

  -- what guards leave of one position
  abbrev CutsOne : Scene → List Cut → Range → Option Range → ℤ → Type 0
  CutsOne scene cuts y last i = CutsTo sight scene cuts y None
      ⊎ ((z : Range) × CutsTo sight scene cuts y (Some z)
      × ((is_empty z.low z.high ≡ true) ⊎ ((x : Range) × (last ≡ Some x) × (within x.low x.high i ≡ true) × IsOne z i)))

  cuts_after : (scene : Scene) (cuts : List Cut) (y : Range) → is_empty y.low y.high ≡ true → (last : Option Range) (i : ℤ)
      → CutsOne scene cuts y last i
  cuts_after scene [] y e last i = inr (y, refl, inl e)
  cuts_after scene (k ∷ cuts) y e last i = inl (inl (e, refl))

  cuts_on : (scene : Scene) (k : Cut) (cuts : List Cut) (y : Range) (last : Option Range) (i : ℤ) (v : Value)
      → is_empty y.low y.high ≡ false → value_at sight scene (guard_term k) ≡ Some v
      → CutsOne scene cuts (cut_by k v y) last i → CutsOne scene (k ∷ cuts) y last i
  cuts_on scene k cuts y last i v full is (inl to) = inl (inr (full, (v, is, to)))
  cuts_on scene k cuts y last i v full is (inr more) = inr (more.0, inr (full, (v, is, more.1)), more.2)

  cuts_one : (scene : Scene) (cuts : List Cut) (r : Range) (last : Option Range) → CutsTo sight scene cuts r last → (i : ℤ)
      → within r.low r.high i ≡ true → (y : Range) → IsOne y i → CutsOne scene cuts y last i
  cuts_one scene [] r last to i w y one = inr (y, refl, inr (r, to, w, one))
  cuts_one scene (k ∷ cuts) r last (inl to) i w y one = empty_no r.low r.high i to.0 w
  cuts_one scene (k ∷ cuts) r last (inr to) i w y one = cuts_on scene k cuts y last i to.1.0 (one_full y i one) to.1.1
      (go (λ h. cuts_one scene cuts (cut_by k to.1.0 r) last to.1.2 i (cut_within k to.1.0 r i w h) (cut_by k to.1.0 y)
      (cut_one k to.1.0 y i one h)) (passes k i to.1.0) refl)
    where
      go : (passes k i to.1.0 ≡ true → CutsOne scene cuts (cut_by k to.1.0 y) last i) → (b : Bool) → passes k i to.1.0 ≡ b
          → CutsOne scene cuts (cut_by k to.1.0 y) last i
      go on true h = on h
      go on false h = cuts_after scene cuts (cut_by k to.1.0 y) (cut_none k to.1.0 y i one h) last i

  pub record DealtItem (scene : Scene) (name : Name) (r : Range) (item : Item) (R : Amounts) : Type 0 where
    pub shares : ℤ → Amounts
    pub shared : IsShared shares R
    pub owns : (i : ℤ) → within r.low r.high i ≡ true → (y : Range) → IsOne y i
        → OwnsItem p flags sight scene name y item (shares i)

  pub item_dealt : (scene : Scene) (name : Name) (r : Range) (item : Item) (R : Amounts)
      → OwnsItem p flags sight scene name r item R → DealtItem scene name r item R
  item_dealt scene name r item R (nothing e) =
      record { shares = λ i q. 0; shared = no_share R; owns = λ i w y one. empty_no r.low r.high i e w }
  item_dealt scene name r (Elements type array shift amount span) R (elements a is facts) = record {
    shares = λ i q. if within r.low r.high i then only (InElement type (reference_in a) (i +ℤ shift)) amount q else 0;
    shared = λ q. share q;
    owns = λ i w y one. elements a is (λ j v.
        let same : j ≡ i +ℤ shift = (let c = one.low in let d = one.high in
        let f = front (int_le (y.low +ℤ shift) j) (int_lt j (y.high +ℤ shift)) v in let g =
        back (int_le (y.low +ℤ shift) j) (int_lt j (y.high +ℤ shift)) v in omega (arith, ints)) in
        let f = facts (i +ℤ shift) (shifted_within r.low r.high i shift w) in
        let much : amount ≤ (if within r.low r.high i then only (InElement type (reference_in a) (i +ℤ shift)) amount
        (InElement type (reference_in a) (i +ℤ shift)) else 0) =
        subst (λ b. amount ≤ (if b then only (InElement type (reference_in a) (i +ℤ shift)) amount
        (InElement type (reference_in a) (i +ℤ shift)) else 0)) (sym w)
        (subst (λ n. amount ≤ n) (sym (only_self (InElement type (reference_in a) (i +ℤ shift)) amount)) (omega arith)) in
        subst (λ z. IsPlaced sight.now (InElement type (reference_in a) z)
        × (amount ≤ (if within r.low r.high i then only (InElement type (reference_in a) (i +ℤ shift)) amount
        (InElement type (reference_in a) z) else 0))) (sym same)
        (f.0, much));
  }
    where
      one : ℤ → Resource
      one i = InElement type (reference_in a) (i +ℤ shift)

      bound : (m : ℤ) (q : Resource) (b c : Bool) → within r.low r.high m ≡ b → same_resource q (one m) ≡ c
          → (if b then (if c then amount else 0) else 0) ≤ R q
      bound m q true true w e =
          let f = facts (m +ℤ shift) (shifted_within r.low r.high m shift w) in let k = f.1 in let same =
          ap R (resources_same q (one m) e) in omega (arith, k, same)
      bound m q true false w e = omega arith
      bound m q false c w e = omega arith

      none : (i : ℤ) (q : Resource) (b c : Bool) → same_resource q (one i) ≡ c → same_number i (index_in q -ℤ shift) ≡ false
          → (if b then (if c then amount else 0) else 0) ≡ 0
      none i q true true e apart =
          let index : index_in q ≡ i +ℤ shift = ap index_in (resources_same q (one i) e) in
          let same : index_in q -ℤ shift ≡ i = omega (arith, ints, index) in
          let t = subst (λ z. same_number i z ≡ false) same apart in let u = number_self i in absurd (cc (t, u))
      none i q true false e apart = refl
      none i q false c e apart = refl

      share : (q : Resource) → (m : ℤ) × ((if within r.low r.high m then only (one m) amount q else 0) ≤ R q)
          × ((i : ℤ) → same_number i m ≡ false → (if within r.low r.high i then only (one i) amount q else 0) ≡ 0)
      share q = (
        index_in q -ℤ shift,
        bound (index_in q -ℤ shift) q (within r.low r.high (index_in q -ℤ shift))
            (same_resource q (one (index_in q -ℤ shift))) refl refl,
        λ i apart. none i q (within r.low r.high i) (same_resource q (one i)) refl apart,
      )
  item_dealt scene name r (Repeated e span) R (repeated facts) = record {
    shares = λ i q. 0;
    shared = no_share R;
    owns =
        λ i w y one. repeated (λ j v. subst (λ z. (x : Value) × (value_at sight (at scene name z) e ≡ Some x)
        × (truth_in x ≡ true)) (sym (one_is y i j one v)) (facts i w));
  }
  item_dealt scene name r (Committed class e span) R (committed o is flagged) =
      record { shares = λ i q. 0; shared = no_share R; owns = λ i w y one. committed o is flagged }
  item_dealt scene name r (Guarded cuts item span) R (cut_off to) = record {
    shares = λ i q. 0;
    shared = no_share R;
    owns = λ i w y one. off (cuts_one scene cuts r None to i w y one);
  }
    where
      off : {y : Range} {i : ℤ} → CutsOne scene cuts y None i
          → OwnsItem p flags sight scene name y (Guarded cuts item span) (λ q. 0)
      off (inl to) = cut_off to
      off (inr (z, to, inl e)) = cut z to (nothing e)
      off (inr (z, to, inr more)) = absurd (none-some more.0 more.1)
  item_dealt scene name r (Guarded cuts item span) R (cut x to owns) = go (item_dealt scene name x item R owns)
    where
      go : DealtItem scene name x item R → DealtItem scene name r (Guarded cuts item span) R
      go d =
          record {
            shares = d.shares;
            shared = d.shared;
            owns = λ i w y one. on d i (cuts_one scene cuts r
                (Some x) to i w y one);
          }
        where
          on : {y : Range} (d : DealtItem scene name x item R) (i : ℤ) → CutsOne scene cuts y (Some x) i
              → OwnsItem p flags sight scene name y (Guarded cuts item span) (d.shares i)
          on d i (inl to) = cut_off to
          on d i (inr (z, to, inl e)) = cut z to (nothing e)
          on d i (inr (z, to, inr more)) =
              cut z to (d.owns i (subst (λ v. within v.low v.high i ≡ true) (sym (same_Some x more.0 more.1)) more.2) z more.3)
  item_dealt scene name r (Fixed e f span) R (fixed v is inside owns) = record {
    shares = λ i q. if same_number i (number_in v) then R q else 0;
    shared =
        λ q. (
          number_in v,
          let here = ap (λ b. if b then R q else 0) (number_self (number_in v)) in
              omega (arith, here),
          λ i e. ap (λ b. if b then R q else 0) e,
        );
    owns = λ i w y one. there i y one (same_number i (number_in v)) refl;
  }
    where
      there : (i : ℤ) (y : Range) → IsOne y i → (b : Bool) → same_number i (number_in v) ≡ b
          → OwnsItem p flags sight scene name y (Fixed e f span) (λ q. if b then R q else 0)
      there i y one true h =
          fixed v is (subst (λ z. within y.low y.high z ≡ true) (numbers_same i (number_in v) h) (one_within y i one)) owns
      there i y one false h = out (within y.low y.high (number_in v)) refl
        where
          out : (b : Bool) → within y.low y.high (number_in v) ≡ b → OwnsItem p flags sight scene name y (Fixed e f span) (λ q. 0)
          out true w =
              let same = one_is y i (number_in v) one w in let t =
              subst (λ z. same_number z (number_in v) ≡ false) (sym same) h in let s =
              number_self (number_in v) in absurd (cc (s, t))
          out false w = beside v is w
  item_dealt scene name r (Fixed e f span) R (beside v is outside) = record {
    shares = λ i q. 0;
    shared = no_share R;
    owns = λ i w y one. beside v is (out i y one w (within y.low y.high (number_in v)) refl);
  }
    where
      out : (i : ℤ) (y : Range) → IsOne y i → within r.low r.high i ≡ true → (b : Bool) → within y.low y.high (number_in v) ≡ b
          → b ≡ false
      out i y one w true h =
          let same = one_is y i (number_in v) one h in let t =
          subst (λ z. within r.low r.high z ≡ true) (sym same) w in absurd (cc (t, outside))
      out i y one w false h = refl

  pub items_dealt : (scene : Scene) (name : Name) (low high : ℤ) (items : Items) (R : Amounts)
      → OwnsItems p flags sight scene name low high items R → DealtItems p flags sight scene name low high items R
  items_dealt scene name low high NoItems R no_items = record {
    shares = λ i q. 0;
    sum = λ q. let none = sum_none (λ i. 0) (width low high) low (λ i w. refl) in omega (arith, none);
    owns = λ i w. no_items;
  }
  items_dealt scene name low high (Join item items) R (joined A B first second parts) =
      go (item_dealt scene name (range_of low high) item A first) (items_dealt scene name low high items B second)
    where
      go : DealtItem scene name (range_of low high) item A → DealtItems p flags sight scene name low high items B
          → DealtItems p flags sight scene name low high (Join item items) R
      go d e = record {
        shares = λ i q. d.shares i q + e.shares i q;
        sum = λ q.
            let two = sum_of_two (λ i. d.shares i q) (λ i. e.shares i q) (width low high) low in
            let one = shares_sum d.shares A d.shared (width low high) low q in
            let other = e.sum q in let all = parts q in omega (arith, two, one, other, all);
        owns =
            λ i w. joined (d.shares i) (e.shares i) (d.owns i w (range_of i (i +ℤ pos 1)) (range_one i)) (e.owns i w)
            (λ q. omega arith);
      }

  -- Gather

  abbrev Ones : Scene → Name → Range → Item → (ℤ → Amounts) → Type 0
  Ones scene name r item S = (i : ℤ) → within r.low r.high i ≡ true → (y : Range) × IsOne y i
      × OwnsItem p flags sight scene name y item (S i)

  abbrev pub GuardedAt : Scene → Name → List Cut → Range → Item → Amounts → Type 0
  GuardedAt scene name cuts y item R =
      CutsTo sight scene cuts y None ⊎ ((x : Range) × CutsTo sight scene cuts y (Some x)
      × OwnsItem p flags sight scene name x item R)

  not_nothing : {A : Type 0} (y : Range) (i : ℤ) → IsOne y i → is_empty y.low y.high ≡ true → A
  not_nothing y i one e = let f = one_full y i one in absurd (cc (e, f))

  pub elements_at : (scene : Scene) (name : Name) (type : PvType) (array : Expression) (shift : ℤ) (amount : ℕ) (span : Span)
      (R : Amounts) (y : Range) (i : ℤ) → IsOne y i
      → OwnsItem p flags sight scene name y (Elements type array shift amount span) R
      → (a : Value) × (value_at sight scene array ≡ Some a) × IsPlaced sight.now (InElement type (reference_in a) (i +ℤ shift))
      × (amount ≤ R (InElement type (reference_in a) (i +ℤ shift)))
  elements_at scene name type array shift amount span R y i one (nothing e) = not_nothing y i one e
  elements_at scene name type array shift amount span R y i one (elements a is facts) =
      let f = facts (i +ℤ shift) (shifted_within y.low y.high i shift (one_within y i one)) in (a, is, f.0, f.1)

  pub repeated_at : (scene : Scene) (name : Name) (e : Expression) (span : Span) (R : Amounts) (y : Range) (i : ℤ) → IsOne y i
      → OwnsItem p flags sight scene name y (Repeated e span) R
      → (v : Value) × (value_at sight (at scene name i) e ≡ Some v) × (truth_in v ≡ true)
  repeated_at scene name e span R y i one (nothing empty) = not_nothing y i one empty
  repeated_at scene name e span R y i one (repeated facts) = facts i (one_within y i one)

  pub committed_at : (scene : Scene) (name : Name) (class : Name) (e : Expression) (span : Span) (R : Amounts) (y : Range) (i : ℤ)
      → IsOne y i → OwnsItem p flags sight scene name y (Committed class e span) R
      → (o : Value) × (value_at sight scene e ≡ Some o) × (flags (reference_in o) ≡ true)
  committed_at scene name class e span R y i one (nothing empty) = not_nothing y i one empty
  committed_at scene name class e span R y i one (committed o is flagged) = (o, is, flagged)

  pub guarded_at : (scene : Scene) (name : Name) (cuts : List Cut) (item : Item) (span : Span) (R : Amounts) (y : Range) (i : ℤ)
      → IsOne y i → OwnsItem p flags sight scene name y (Guarded cuts item span) R
      → GuardedAt scene name cuts y item R
  guarded_at scene name cuts item span R y i one (nothing empty) = not_nothing y i one empty
  guarded_at scene name cuts item span R y i one (cut_off to) = inl to
  guarded_at scene name cuts item span R y i one (cut x to owns) = inr (x, to, owns)

  pub fixed_at : (scene : Scene) (name : Name) (e : Expression) (f : Formula) (span : Span) (R : Amounts) (y : Range) (i : ℤ)
      → IsOne y i → OwnsItem p flags sight scene name y (Fixed e f span) R
      → (v : Value) × (value_at sight scene e ≡ Some v) × (i ≡ number_in v → Owns p flags sight (at scene name (number_in v)) f R)
  fixed_at scene name e f span R y i one (nothing empty) = not_nothing y i one empty
  fixed_at scene name e f span R y i one (fixed v is inside owns) = (v, is, λ same. owns)
  fixed_at scene name e f span R y i one (beside v is outside) =
      (v, is, λ same. let t = subst (λ z. within y.low y.high z ≡ true) same (one_within y i one) in absurd (cc (t, outside)))

  one_value : (scene : Scene) (e : Expression) (v w : Value) → value_at sight scene e ≡ Some v → value_at sight scene e ≡ Some w
      → w ≡ v
  one_value scene e v w a b = same_Some w v (sym b ∙ a)

  pub full_or : {scene : Scene} {name : Name} {r : Range} {item : Item} {T : Amounts} (b : Bool) → is_empty r.low r.high ≡ b
      → (is_empty r.low r.high ≡ false → OwnsItem p flags sight scene name r item T)
      → OwnsItem p flags sight scene name r item T
  full_or true e f = nothing e
  full_or false e f = f e

  -- the next guard's term has a value at the position
  term_at : (scene : Scene) (name : Name) (k : Cut) (cuts : List Cut) (item : Item) (R : Amounts) (y : Range) (i : ℤ) → IsOne y i
      → GuardedAt scene name (k ∷ cuts) y item R
      → (v : Value) × (value_at sight scene (guard_term k) ≡ Some v) × GuardedAt scene name cuts (cut_by k v y) item R
  term_at scene name k cuts item R y i one (inl (inl to)) = not_nothing y i one to.0
  term_at scene name k cuts item R y i one (inl (inr to)) = (to.1.0, to.1.1, inl to.1.2)
  term_at scene name k cuts item R y i one (inr (x, inl to, owns)) = not_nothing y i one to.0
  term_at scene name k cuts item R y i one (inr (x, inr to, owns)) = (to.1.0, to.1.1, inr (x, to.1.2, owns))

  abbrev Gathered : Scene → Name → List Cut → Range → Item → (ℤ → Amounts) → Type 0
  Gathered scene name cuts r item S = CutsTo sight scene cuts r None
      ⊎ ((x : Range) × CutsTo sight scene cuts r (Some x)
      × ((i : ℤ) → within x.low x.high i ≡ true → (within r.low r.high i ≡ true)
      × ((y : Range) × IsOne y i × OwnsItem p flags sight scene name y item (S i))))

  gathered_on : (scene : Scene) (name : Name) (k : Cut) (cuts : List Cut) (r : Range) (item : Item) (S : ℤ → Amounts) (v : Value)
      → is_empty r.low r.high ≡ false → value_at sight scene (guard_term k) ≡ Some v
      → Gathered scene name cuts (cut_by k v r) item S → Gathered scene name (k ∷ cuts) r item S
  gathered_on scene name k cuts r item S v full is (inl to) = inl (inr (full, (v, is, to)))
  gathered_on scene name k cuts r item S v full is (inr more) =
      inr (more.0, inr (full, (v, is, more.1)), λ i w. let m = more.2 i w in ((cut_passes k v r i m.0).0, m.1))

  cuts_gathered : (scene : Scene) (name : Name) (cuts : List Cut) (r : Range) (item : Item) (S : ℤ → Amounts)
      → ((i : ℤ) → within r.low r.high i ≡ true → (y : Range) × IsOne y i × GuardedAt scene name cuts y item (S i))
      → Gathered scene name cuts r item S
  cuts_gathered scene name [] r item S ones = inr (r, refl, λ i w. let o = ones i w in (w, (o.0, o.1, last o.0 i o.2)))
    where
      last : (y : Range) (i : ℤ) → GuardedAt scene name [] y item (S i) → OwnsItem p flags sight scene name y item (S i)
      last y i (inl to) = absurd (none-some y to)
      last y i (inr (x, to, owns)) = subst (λ z. OwnsItem p flags sight scene name z item (S i)) (same_Some x y to) owns
  cuts_gathered scene name (k ∷ cuts) r item S ones = go (is_empty r.low r.high) refl
      (λ v is. cuts_gathered scene name cuts (cut_by k v r) item S (λ i w.
      let past = cut_passes k v r i w in
      let o = ones i past.0 in
      let t = term_at scene name k cuts item (S i) o.0 i o.1 o.2 in (
        cut_by k v o.0,
        cut_one k v o.0 i o.1 past.1,
        subst (λ z. GuardedAt scene name cuts (cut_by k z o.0) item (S i))
            (one_value scene (guard_term k) v t.0 is t.1) t.2,
      )))
    where
      go : (b : Bool) → is_empty r.low r.high ≡ b → ((v : Value) → value_at sight scene (guard_term k) ≡ Some v
          → Gathered scene name cuts (cut_by k v r) item S) → Gathered scene name (k ∷ cuts) r item S
      go true e rest = inl (inl (e, refl))
      go false e rest =
          let o = ones r.low (first_within r.low r.high e) in
          let t = term_at scene name k cuts item (S r.low) o.0 r.low o.1 o.2 in
          gathered_on scene name k cuts r item S t.0 e t.1 (rest t.0 t.1)

  pub item_gathered : (scene : Scene) (name : Name) (r : Range) (item : Item) (S : ℤ → Amounts) (T : Amounts)
      → ((i : ℤ) → within r.low r.high i ≡ true → (q : Resource) → S i q ≤ T q)
      → Ones scene name r item S → OwnsItem p flags sight scene name r item T
  item_gathered scene name r (Elements type array shift amount span) S T less ones = full_or (is_empty r.low r.high) refl (λ full.
      let o = ones r.low (first_within r.low r.high full) in
      let d = elements_at scene name type array shift amount span (S r.low) o.0 r.low o.1 o.2 in
      elements d.0 d.1 (λ j w.
      let i = unshifted r.low r.high shift j w in
      let x = ones (j -ℤ shift) i in
      let e = elements_at scene name type array shift amount span (S (j -ℤ shift)) x.0 (j -ℤ shift) x.1 x.2 in
      let same : e.0 ≡ d.0 = one_value scene array d.0 e.0 d.1 e.1 in
      let back : j -ℤ shift +ℤ shift ≡ j = omega (arith, ints) in
      let k = less (j -ℤ shift) i (InElement type (reference_in e.0) (j -ℤ shift +ℤ shift)) in
      let l = e.3 in
      let much : amount ≤ T (InElement type (reference_in e.0) (j -ℤ shift +ℤ shift)) = omega (arith, k, l) in
      subst (λ z. IsPlaced sight.now (InElement type (reference_in d.0) z) × (amount ≤ T (InElement type (reference_in d.0) z)))
      back
      (subst (λ z. IsPlaced sight.now (InElement type (reference_in z) (j -ℤ shift +ℤ shift))
      × (amount ≤ T (InElement type (reference_in z) (j -ℤ shift +ℤ shift)))) same (e.2, much))))
  item_gathered scene name r (Repeated e span) S T less ones =
      repeated (λ i w. let o = ones i w in repeated_at scene name e span (S i) o.0 i o.1 o.2)
  item_gathered scene name r (Committed class e span) S T less ones = full_or (is_empty r.low r.high) refl (λ full.
      let o = ones r.low (first_within r.low r.high full) in
      let d = committed_at scene name class e span (S r.low) o.0 r.low o.1 o.2 in committed d.0 d.1 d.2)
  item_gathered scene name r (Guarded cuts item span) S T less ones =
      go (cuts_gathered scene name cuts r item S (λ i w. let o = ones i w in
      (o.0, o.1, guarded_at scene name cuts item span (S i) o.0 i o.1 o.2)))
      (λ x inside more. item_gathered scene name x item S T (λ i w. less i (inside i w)) more)
    where
      go : Gathered scene name cuts r item S
          → ((x : Range) → ((i : ℤ) → within x.low x.high i ≡ true → within r.low r.high i ≡ true) → Ones scene name x item S
          → OwnsItem p flags sight scene name x item T)
          → OwnsItem p flags sight scene name r (Guarded cuts item span) T
      go (inl to) owns = cut_off to
      go (inr more) owns = cut more.0 more.1 (owns more.0 (λ i w. (more.2 i w).0) (λ i w. (more.2 i w).1))
  item_gathered scene name r (Fixed e f span) S T less ones = full_or (is_empty r.low r.high) refl (λ full.
      let o = ones r.low (first_within r.low r.high full) in
      let d = fixed_at scene name e f span (S r.low) o.0 r.low o.1 o.2 in
      go d.0 d.1 (within r.low r.high (number_in d.0)) refl)
    where
      go : (v : Value) → value_at sight scene e ≡ Some v → (b : Bool) → within r.low r.high (number_in v) ≡ b
          → OwnsItem p flags sight scene name r (Fixed e f span) T
      go v is true w =
          let o = ones (number_in v) w in
          let d = fixed_at scene name e f span (S (number_in v)) o.0 (number_in v) o.1 o.2 in
          let same : d.0 ≡ v = one_value scene e v d.0 is d.1 in
          fixed v is w (owns_more T (less (number_in v) w)
          (subst (λ z. Owns p flags sight (at scene name (number_in z)) f (S (number_in v))) same
          (d.2 (ap number_in (sym same)))))
      go v is false w = beside v is w

  sum_less : (f g : ℤ → ℕ) (n : ℕ) (low : ℤ) → ((i : ℤ) → f i ≤ g i) → sum_of_each f low n ≤ sum_of_each g low n
  sum_less f g zero low h = omega arith
  sum_less f g (suc n) low h = let a = h low in let b = sum_less f g n (low +ℤ pos 1) h in omega (arith, a, b)

  record Split (scene : Scene) (name : Name) (low high : ℤ) (item : Item) (items : Items) (R : Amounts) (i : ℤ) : Type 0 where
    first : Amounts
    second : Amounts
    one : within low high i ≡ true → OwnsItem p flags sight scene name (range_of i (i +ℤ pos 1)) item first
    other : within low high i ≡ true → OwnsItems p flags sight scene name i (i +ℤ pos 1) items second
    parts : (q : Resource) → first q + second q ≤ R q

  pub items_gathered : (scene : Scene) (name : Name) (low high : ℤ) (items : Items) (S : ℤ → Amounts)
      → ((i : ℤ) → within low high i ≡ true → OwnsItems p flags sight scene name i (i +ℤ pos 1) items (S i))
      → OwnsItems p flags sight scene name low high items (λ q. sum_of_each (λ i. S i q) low (width low high))
  items_gathered scene name low high NoItems S ones = no_items
  items_gathered scene name low high (Join item items) S ones =
      joined (λ q. sum_of_each (λ i. (split i).first q) low (width low high))
      (λ q. sum_of_each (λ i. (split i).second q) low (width low high))
      (item_gathered scene name (range_of low high) item (λ i. (split i).first)
      (λ q. sum_of_each (λ i. (split i).first q) low (width low high))
      (λ i w q. sum_within (λ i. (split i).first q) low high i w)
      (λ i w. (range_of i (i +ℤ pos 1), range_one i, (split i).one w)))
      (items_gathered scene name low high items (λ i. (split i).second) (λ i w. (split i).other w))
      (λ q. let two = sum_of_two (λ i. (split i).first q) (λ i. (split i).second q) (width low high) low in
      let less =
      sum_less (λ i. (split i).first q + (split i).second q) (λ i. S i q) (width low high) low (λ i. (split i).parts q) in
      omega (arith, two, less))
    where
      at_one : (i : ℤ) → OwnsItems p flags sight scene name i (i +ℤ pos 1) (Join item items) (S i)
          → Split scene name low high item items (S i) i
      at_one i (joined A B first second parts) =
          record { first = A; second = B; one = λ w. first; other = λ w. second; parts = parts }

      go : (i : ℤ) (b : Bool) → within low high i ≡ b → Split scene name low high item items (S i) i
      go i true w = at_one i (ones i w)
      go i false w =
          record {
            first = λ q. 0;
            second = λ q. 0;
            one = λ t. absurd (cc (t, w));
            other = λ t. absurd (cc (t, w));
            parts = λ q. omega arith;
          }

      split : (i : ℤ) → Split scene name low high item items (S i) i
      split i = go i (within low high i) refl
