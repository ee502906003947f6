-- How numbers compare.
use Rattle.std.proofs.Common.{◌≡◌, ℕ, ℤ, Bool, true, false, List, [], ◌∷◌, ◌++◌, refl, sym, ap, subst, ◌∙◌, inl, ◌↔◌, IsTrue, if◌then◌else◌, rules, arith}
use Rattle.pv_linear.proofs.Bounds.{within_abs, within_more}
use Rattle.std.specs.Prelude.{unsigned_abs, ◌≤◌, ◌^◌, not, int_le, int_lt, ◌≤ℤ◌, ◌-ℤ◌, ◌&&◌, zero, suc, ◌<◌, length, slice_index_or}
use Rattle.pv_linear.specs.Sorts.{HasSort}
use Rattle.std.specs.Ordering.{int_cmp}
use Rattle.std.specs.declared.cmp.Ordering.{Ordering}
use Rattle.std.specs.declared.cmp.Ordering.TheVariants.{Less, Equal, Greater}
use Rattle.std.proofs.lemmas.Int.{ints}
use Rattle.pv_values.specs.Heaps.{same_number}
use Rattle.pv_picks.specs.Lazy.Patterns.{Order, IsLess, IsEqual, IsGreater, Shown, Ordered, order_of, same_operation, shown_if}
use Rattle.pv_linear.specs.declared.Sort.{Sort}
use Rattle.pv_linear.specs.declared.Sort.TheVariants.{Number}
use Rattle.pv_linear.specs.declared.Term.{Term}
use Rattle.pv_linear.specs.declared.Literal.{Literal}
use Rattle.pv_linear.specs.declared.Literal.TheVariants.{AtMost}
use Rattle.pv_picks.specs.declared.plain.Operation.{Operation}
use Rattle.pv_picks.specs.Plain.Trees.{operation_of}
use Rattle.pv_linear.specs.Values.{Values}
use Rattle.pv_linear.specs.Asking.{Meet}
use Rattle.pv_linear.specs.Evidence.{MayAsk}
use Rattle.pv_linear.specs.Decisions.{Decision}
use Rattle.pv_linear.proofs.Orders.{less, equal, greater, at_most_same, at_least_same}
use Rattle.pv_state.specs.Parts.{IsSorted, StaysSorted}
use Rattle.pv_state.specs.Values.{IsTerm}
use Rattle.pv_state.specs.Uses.{IsUse, AreUses, shown_at}
use Rattle.pv_state.specs.declared.uses.TabledUse.{TabledUse}
use Rattle.pv_linear.proofs.SortingLemmas.{has_more}
use Rattle.pv_state.proofs.Asked.{sorted_asks, sorted_stays}

pub term_stays : (xs ys : List Sort) (t : Term) → xs ≡ ys → IsTerm ys t → IsTerm xs t
term_stays xs ys t e h = subst (λ zs. IsTerm zs t) (sym e) h

pub sorts_stay : {S : Type 0} (path : S → List Literal) (turns : S → List ℕ) (decisions : S → List Decision)
    (sorts : S → List Sort) (old new : S) → StaysSorted path turns decisions sorts old new
    → IsSorted path turns decisions sorts old → IsSorted path turns decisions sorts new
sorts_stay path turns decisions sorts old new stays sorted =
    sorted_stays path turns decisions (λ s e. Unit {0}) (λ s. 0) sorts old new stays sorted

pub may_compare : {S : Type 0} (path : S → List Literal) (turns : S → List ℕ) (decisions : S → List Decision)
    (sorts : S → List Sort) (asker : S) (a b : Term) → IsSorted path turns decisions sorts asker → IsTerm (sorts asker) a
    → IsTerm (sorts asker) b → MayAsk (path asker) (AtMost a.symbol b.symbol (b.plus -ℤ a.plus))
may_compare path turns decisions sorts asker a b sorted x y =
    sorted_asks path turns decisions (λ s e. Unit {0}) (λ s. 0) sorts asker (AtMost a.symbol b.symbol (b.plus -ℤ a.plus)) sorted
    (inl (x.sort, y.sort))

pub equal_told : (told : Bool) (a b : ℤ) → IsTrue told ↔ (a ≡ b) → told ≡ same_number a b
equal_told told a b says = go told (int_le a b) (int_le b a) (λ t. search (rules, ints, says.0 t)) (λ t. search (
  rules,
  ints,
  says.0 t,
))
    (λ p q. says.1 (search (rules, ints)))
  where
    go : (t x y : Bool) → (IsTrue t → x ≡ true) → (IsTrue t → y ≡ true) → (x ≡ true → y ≡ true → IsTrue t) → t ≡ (x && y)
    go true x y f g h = search (rules, f refl, g refl)
    go false true true f g h = h refl refl
    go false true false f g h = refl
    go false false y f g h = refl

ordering_of : Order → Ordering
ordering_of IsLess = Less
ordering_of IsEqual = Equal
ordering_of IsGreater = Greater

cmp_order : (a b : ℤ) → ordering_of (order_of a b) ≡ int_cmp a b
unfolding ordering_of
cmp_order a b = go (int_lt a b) (int_lt b a) (λ p. less a b (λ q. search (rules, ints))) (λ p. greater a b (λ q. search
    (rules, ints)))
    (λ p q. equal a b (search (rules, ints)) (search (rules, ints)))
  where
    go : (x y : Bool) → (x ≡ true → Less ≡ int_cmp a b) → (y ≡ true → Greater ≡ int_cmp a b)
        → (x ≡ false → y ≡ false → Equal ≡ int_cmp a b)
        → ordering_of (if x then IsLess else if y then IsGreater else IsEqual) ≡ int_cmp a b
    go true y f g h = f refl
    go false true f g h = g refl
    go false false f g h = h refl refl

-- numbers that compare alike compare alike in each of the two ways to say it
pub order_cmp : (a b c d : ℤ) → order_of a b ≡ order_of c d → int_cmp a b ≡ int_cmp c d
order_cmp a b c d h = sym (cmp_order a b) ∙ ap ordering_of h ∙ cmp_order c d

pub orders_same : (p q r s t u v w : Order)
    → (Ordered p ∷ Ordered q ∷ Ordered r ∷ Ordered s ∷ []) ≡ (Ordered t ∷ Ordered u ∷ Ordered v ∷ Ordered w ∷ [])
    → (p ∷ q ∷ r ∷ s ∷ []) ≡ (t ∷ u ∷ v ∷ w ∷ [])
orders_same p q r s t u v w h = cc h

four_first : (b : Bool) (p q r s t u v w : Shown) (xs ys : List Shown)
    → shown_if b (p ∷ q ∷ r ∷ s ∷ []) ++ xs ≡ shown_if b (t ∷ u ∷ v ∷ w ∷ []) ++ ys
    → shown_if b (p ∷ q ∷ r ∷ s ∷ []) ++ [] ≡ shown_if b (t ∷ u ∷ v ∷ w ∷ []) ++ []
four_first true p q r s t u v w xs ys h = cc h
four_first false p q r s t u v w xs ys h = refl

four_rest : (b : Bool) (p q r s t u v w : Shown) (xs ys : List Shown)
    → shown_if b (p ∷ q ∷ r ∷ s ∷ []) ++ xs ≡ shown_if b (t ∷ u ∷ v ∷ w ∷ []) ++ ys → xs ≡ ys
four_rest true p q r s t u v w xs ys h = cc h
four_rest false p q r s t u v w xs ys h = h

-- what a use shows of the first one, and of the rest
pub shown_first : (v w : Values) (o : Operation) (a b : Term) (u : TabledUse) (us : List TabledUse)
    → shown_at v o a b (u ∷ us) ≡ shown_at w o a b (u ∷ us) → shown_at v o a b (u ∷ []) ≡ shown_at w o a b (u ∷ [])
shown_first v w o a b u us h = four_first (same_operation (operation_of o) (operation_of u.operation)) _ _ _ _ _ _ _ _ _ _ h

pub shown_rest : (v w : Values) (o : Operation) (a b : Term) (u : TabledUse) (us : List TabledUse)
    → shown_at v o a b (u ∷ us) ≡ shown_at w o a b (u ∷ us) → shown_at v o a b us ≡ shown_at w o a b us
shown_rest v w o a b u us h = four_rest (same_operation (operation_of o) (operation_of u.operation)) _ _ _ _ _ _ _ _ _ _ h

four_met : (b : Bool) (p q r s t u v w : Shown) (xs ys : List Shown) → (Meet xs ys → xs ≡ ys)
    → Meet (shown_if b (p ∷ q ∷ r ∷ s ∷ []) ++ xs) (shown_if b (t ∷ u ∷ v ∷ w ∷ []) ++ ys)
    → shown_if b (p ∷ q ∷ r ∷ s ∷ []) ++ xs ≡ shown_if b (t ∷ u ∷ v ∷ w ∷ []) ++ ys
unfolding Meet
four_met true p q r s t u v w xs ys h m =
    ap (λ y. y ∷ q ∷ r ∷ s ∷ xs) m.0 ∙ ap (λ y. t ∷ y ∷ r ∷ s ∷ xs) m.1.0 ∙ ap (λ y. t ∷ u ∷ y ∷ s ∷ xs) m.1.1.0
    ∙ ap (λ y. t ∷ u ∷ v ∷ y ∷ xs) m.1.1.1.0 ∙ ap (λ zs. t ∷ u ∷ v ∷ w ∷ zs) (h m.1.1.1.1)
four_met false p q r s t u v w xs ys h m = h m

-- what two runs show of one use among the same ones has one length
pub shown_met : (v w : Values) (o : Operation) (a b : Term) (us : List TabledUse)
    → Meet (shown_at v o a b us) (shown_at w o a b us) → shown_at v o a b us ≡ shown_at w o a b us
shown_met v w o a b [] m = refl
shown_met v w o a b (u ∷ us) m =
    four_met (same_operation (operation_of o) (operation_of u.operation)) _ _ _ _ _ _ _ _ _ _ (shown_met v w o a b us) m

pub uses_stay : (xs ys : List Sort) (us : List TabledUse) → xs ≡ ys → AreUses ys us → AreUses xs us
uses_stay xs ys us e h = subst (λ zs. AreUses zs us) (sym e) h

pub first_use : (made : List Sort) (u : TabledUse) (us : List TabledUse) → AreUses made (u ∷ us) → IsUse made u
unfolding AreUses
first_use made u us h = h.0

pub rest_uses : (made : List Sort) (u : TabledUse) (us : List TabledUse) → AreUses made (u ∷ us) → AreUses made us
unfolding AreUses
rest_uses made u us h = h.1

pub use_stays : (xs ys : List Sort) (u : TabledUse) → xs ≡ ys → IsUse ys u → IsUse xs u
use_stays xs ys u e h = subst (λ zs. IsUse zs u) (sym e) h

pub term_more : (made more : List Sort) (t : Term) → IsTerm made t → IsTerm (made ++ more) t
term_more made more t h = record { sort = has_more made more Number t.symbol.0 h.sort; near = h.near }

pub uses_more : (made more : List Sort) (us : List TabledUse) → AreUses made us → AreUses (made ++ more) us
unfolding AreUses
uses_more made more [] h = tt
uses_more made more (u ∷ us) h = (
  record {
    left = term_more made more u.left h.0.left;
    right = term_more made more u.right h.0.right;
    value = has_more made more Number u.value.0 h.0.value;
  },
  uses_more made more us h.1,
)

pub uses_push : (made : List Sort) (us : List TabledUse) (u : TabledUse) → AreUses made us → IsUse made u
    → AreUses made (us ++ u ∷ [])
unfolding AreUses
uses_push made [] u h k = (k, tt)
uses_push made (x ∷ xs) u h k = (h.0, uses_push made xs u h.1 k)

pub use_of : (made : List Sort) (us : List TabledUse) (i : ℕ) (d : TabledUse) → i < length us → AreUses made us
    → IsUse made (slice_index_or us i d)
unfolding AreUses
use_of made [] i d h k = absurd (omega arith)
use_of made (u ∷ us) zero d h k = k.0
use_of made (u ∷ us) (suc i) d h k = use_of made us i d (omega (arith, h)) k.1

pub value_of_use : (made : List Sort) (us : List TabledUse) (i : ℕ) (d : TabledUse) → i < length us → AreUses made us
    → HasSort made Number (slice_index_or us i d).value.0
value_of_use made us i d h k = (use_of made us i d h k).value

pub le_told : (told : Bool) (a b : ℤ) → IsTrue told ↔ (a ≤ℤ b) → told ≡ int_le a b
le_told told a b says = search (rules, ints, says)

pub lt_told : (told : Bool) (a b : ℤ) → IsTrue told ↔ (b ≤ℤ a) → not told ≡ int_lt a b
lt_told told a b says = search (rules, ints, says)

pub meet_le : (x y z w : ℤ) → Meet (Ordered (order_of x y) ∷ []) (Ordered (order_of z w) ∷ []) → int_le x y ≡ int_le z w
unfolding Meet
meet_le x y z w m = at_most_same x y z w (order_cmp x y z w (cc m.0))

pub meet_ge : (x y z w : ℤ) → Meet (Ordered (order_of x y) ∷ []) (Ordered (order_of z w) ∷ []) → int_le y x ≡ int_le w z
unfolding Meet
meet_ge x y z w m = at_least_same x y z w (order_cmp x y z w (cc m.0))

pub lt_not_le : (a b : ℤ) → not (int_le a b) ≡ int_lt b a
lt_not_le a b = search (rules, ints)

pub le_not_lt : (a b : ℤ) → not (int_lt a b) ≡ int_le b a
le_not_lt a b = search (rules, ints)

pub meet_order : (x y z w : ℤ) → Meet (Ordered (order_of x y) ∷ []) (Ordered (order_of z w) ∷ []) → order_of x y ≡ order_of z w
unfolding Meet
meet_order x y z w m = cc m.0

pub is_number : (made : List Sort) (t : Term) → HasSort made Number t.symbol.0 → unsigned_abs t.plus ≤ 2 ^ 98 → IsTerm made t
is_number made t h k = record { sort = h; near = within_more (unsigned_abs t.plus) (2 ^ 98) t.plus (within_abs t.plus) k }
