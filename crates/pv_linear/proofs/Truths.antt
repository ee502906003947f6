-- Values in which each truth value is 0 or 1.
use Rattle.std.proofs.Common.{◌≡◌, ℕ, zero, suc, ℤ, pos, negsuc, ◌+ℤ◌, ◌≤ℤ◌, List, [], ◌∷◌, Option, Some, None, refl, ap, sym, subst, ◌∙◌, ◌⊎◌, inl, inr, arith}
use Rattle.std.specs.Prelude.{slice_get}
use Rattle.std.proofs.lemmas.Int.{ints}
use Rattle.pv_linear.specs.declared.Sort.{Sort}
use Rattle.pv_linear.specs.declared.Sort.TheVariants.{Number, Truth, Reference}
use Rattle.pv_linear.specs.declared.Symbol.{Symbol}
use Rattle.pv_linear.specs.declared.Literal.{Literal}
use Rattle.pv_linear.specs.declared.Literal.TheVariants.{AtMost, Same, Differ}
use Rattle.pv_linear.specs.Values.{Values, number_of}
use Rattle.pv_linear.specs.Literal.{Holds, Meets}
use Rattle.pv_linear.specs.Sorts.{IsSort, IsTest, IsOfSorts, AreOfSorts}

-- 1 for each number from 1 on, and 0 for the others
pub as_truth : ℤ → ℤ
as_truth (pos zero) = pos 0
as_truth (pos (suc n)) = pos 1
as_truth (negsuc n) = pos 0

at_sort : Option Sort → ℤ → ℤ
at_sort None z = z
at_sort (Some Number) z = z
at_sort (Some Truth) z = as_truth z
at_sort (Some Reference) z = z

-- the values with 0 or 1 for each symbol that was made as a truth value
pub with_truths : List Sort → Values → Values
with_truths made v k = at_sort (slice_get made k) (v k)

truth_up : (z : ℤ) → pos 0 ≤ℤ (z +ℤ negsuc 0) → pos 0 ≤ℤ (as_truth z +ℤ negsuc 0)
unfolding as_truth
truth_up (pos zero) h = h
truth_up (pos (suc n)) h = omega (arith, ints)
truth_up (negsuc n) h = absurd (omega (arith, ints, h))

truth_down : (z : ℤ) → z ≤ℤ (pos 0 +ℤ pos 0) → as_truth z ≤ℤ (pos 0 +ℤ pos 0)
unfolding as_truth
truth_down (pos zero) h = h
truth_down (pos (suc n)) h = absurd (omega (arith, ints, h))
truth_down (negsuc n) h = omega (arith, ints)

kept_as : (o : Option Sort) (s : Sort) (z : ℤ) → ((t : Sort) → o ≡ Some t → t ≡ s) → (s ≡ Truth → ⊥) → at_sort o z ≡ z
unfolding at_sort
kept_as None s z h n = refl
kept_as (Some Number) s z h n = refl
kept_as (Some Truth) s z h n = absurd (n (sym (h Truth refl)))
kept_as (Some Reference) s z h n = refl

kept_at : (made : List Sort) (s : Sort) (v : Values) (k : ℕ) → IsSort (slice_get made) s k → (s ≡ Truth → ⊥)
    → number_of (with_truths made v) k ≡ number_of v k
unfolding number_of with_truths
kept_at made s v zero h n = refl
kept_at made s v (suc k) h n = kept_as (slice_get made k) s (v k) h n

either_as : (o : Option Sort) (z : ℤ) → ((t : Sort) → o ≡ Some t → t ≡ Truth) → (at_sort o z ≡ z) ⊎ (at_sort o z ≡ as_truth z)
unfolding at_sort
either_as None z h = inl refl
either_as (Some Number) z h = inl refl
either_as (Some Truth) z h = inr refl
either_as (Some Reference) z h = inl refl

either_at : (made : List Sort) (v : Values) (k : ℕ) → IsSort (slice_get made) Truth k
    → (number_of (with_truths made v) k ≡ number_of v k) ⊎ (number_of (with_truths made v) k ≡ as_truth (number_of v k))
unfolding number_of with_truths
either_at made v zero h = inl refl
either_at made v (suc k) h = either_as (slice_get made k) (v k) h

no_truth : (s : Sort) → (s ≡ Number) ⊎ (s ≡ Reference) → s ≡ Truth → ⊥
no_truth s (inl e) q = let r : Number ≡ Truth = sym e ∙ q in cc r
no_truth s (inr e) q = let r : Reference ≡ Truth = sym e ∙ q in cc r

zero_is : (v : Values) (k : ℕ) → k ≡ 0 → number_of v k ≡ pos 0
unfolding number_of
zero_is v zero e = refl
zero_is v (suc k) e = absurd (omega (arith, e))

test_holds : (made : List Sort) (v : Values) (x y : Symbol) (c : ℤ) → IsTest (IsSort (slice_get made) Truth) x y c
    → Holds v (AtMost x y c) → Holds (with_truths made v) (AtMost x y c)
test_holds made v x y c (inl (z, (e, t))) h =
    let w = with_truths made v in
    let a = zero_is v x.0 z in
    let b = zero_is w x.0 z in
    let g : pos 0 ≤ℤ (number_of v y.0 +ℤ negsuc 0) = rw (a, e) at h in
    rw (b, e) (elim (either_at made v y.0 t) [ inl q ↦ (rw q g) | inr q ↦ (rw q (truth_up (number_of v y.0) g)) ])
test_holds made v x y c (inr (z, (e, t))) h =
    let w = with_truths made v in
    let a = zero_is v y.0 z in
    let b = zero_is w y.0 z in
    let g : number_of v x.0 ≤ℤ (pos 0 +ℤ pos 0) = rw (a, e) at h in
    rw (b, e) (elim (either_at made v x.0 t) [ inl q ↦ (rw q g) | inr q ↦ (rw q (truth_down (number_of v x.0) g)) ])

literal_holds : (made : List Sort) (v : Values) (l : Literal) → IsOfSorts (slice_get made) l → Holds v l
    → Holds (with_truths made v) l
literal_holds made v (AtMost x y c) (inl s) h =
    rw (kept_at made Number v x.0 s.0 (no_truth Number (inl refl)), kept_at made Number v y.0 s.1 (no_truth Number (inl refl))) h
literal_holds made v (AtMost x y c) (inr s) h = test_holds made v x y c s h
literal_holds made v (Same x y) s h = rw (
  kept_at made Reference v x.0 s.0 (no_truth Reference (inr refl)),
  kept_at made Reference v y.0 s.1 (no_truth Reference (inr refl)),
) h
literal_holds made v (Differ x y) s h = rw (
  kept_at made Reference v x.0 s.0 (no_truth Reference (inr refl)),
  kept_at made Reference v y.0 s.1 (no_truth Reference (inr refl)),
) h

-- they meet the literals of these sorts that the others meet
pub truths_meet : (made : List Sort) (v : Values) (ls : List Literal) → AreOfSorts (slice_get made) ls → Meets v ls
    → Meets (with_truths made v) ls
unfolding AreOfSorts
truths_meet made v [] s m = tt
truths_meet made v (l ∷ ls) s m = (literal_holds made v l s.0 m.0, truths_meet made v ls s.1 m.1)

two : (z : ℤ) → (as_truth z ≡ pos 0) ⊎ (as_truth z ≡ pos 1)
unfolding as_truth
two (pos zero) = inl refl
two (pos (suc n)) = inr refl
two (negsuc n) = inl refl

-- each truth value is 0 or 1
pub truths_are : (made : List Sort) (v : Values) (k : ℕ) → slice_get made k ≡ Some Truth
    → (with_truths made v k ≡ pos 0) ⊎ (with_truths made v k ≡ pos 1)
unfolding with_truths at_sort
truths_are made v k e = subst (λ (o : Option Sort). (at_sort o (v k) ≡ pos 0) ⊎ (at_sort o (v k) ≡ pos 1)) (sym e) (two (v k))
