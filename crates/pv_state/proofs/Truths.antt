-- Questions on truth values.
use Rattle.std.proofs.Common.{◌≡◌, ℕ, ℤ, pos, Bool, true, false, List, [], ◌∷◌, refl, sym, ap, subst, inl, inr, ◌↔◌, IsTrue, rules}
use Rattle.std.specs.Prelude.{int_le, ◌≤ℤ◌, not}
use Rattle.std.proofs.lemmas.Int.{ints}
use Rattle.pv_linear.specs.declared.Sort.{Sort}
use Rattle.pv_linear.specs.declared.Sort.TheVariants as sort
use Rattle.pv_linear.specs.declared.Symbol.{Symbol}
use Rattle.pv_linear.specs.declared.Literal.{Literal}
use Rattle.pv_linear.specs.Evidence.{MayAsk}
use Rattle.pv_linear.specs.Sorts.{HasSort, truth_test}
use Rattle.pv_linear.specs.Decisions.{Decision}
use Rattle.pv_linear.specs.Asking.{Meet}
use Rattle.pv_picks.specs.Lazy.Patterns.{Is}
use Rattle.pv_state.specs.Parts.{IsSorted}
use Rattle.pv_state.specs.Values.{IsMadeTruth}
use Rattle.pv_state.specs.declared.values.SymbolTruth.{SymbolTruth}
use Rattle.pv_state.proofs.Asked.{sorted_asks}

pub truth_may : {S : Type 0} (path : S → List Literal) (turns : S → List ℕ) (decisions : S → List Decision) (sorts : S
    → List Sort)
    (asker : S) (t : Symbol) → IsSorted path turns decisions sorts asker → HasSort (sorts asker) sort.Truth t.0
    → MayAsk (path asker) (truth_test t)
truth_may path turns decisions sorts asker t sorted has =
    sorted_asks path turns decisions (λ s e. Unit {0}) (λ s. 0) sorts asker (truth_test t) sorted (inr (inl (refl, (refl, has))))

pub truth_says : (told : Bool) (z : ℤ) → IsTrue told ↔ (pos 1 ≤ℤ z) → told ≡ int_le (pos 1) z
truth_says told z says = search (rules, ints, says)

pub meet_is : (a b : Bool) → Meet (Is a ∷ []) (Is b ∷ []) → a ≡ b
unfolding Meet
meet_is a b m = cc m.0

pub not_not : (b : Bool) → b ≡ not (not b)
not_not true = refl
not_not false = refl

pub meet_not : (a b : Bool) → Meet (Is (not a) ∷ []) (Is (not b) ∷ []) → Meet (Is a ∷ []) (Is b ∷ [])
unfolding Meet
meet_not true true m = (refl, tt)
meet_not false false m = (refl, tt)
meet_not true false m = let p : IsTrue false = cc m.0 in absurd (search (rules, p))
meet_not false true m = let p : IsTrue false = cc m.0 in absurd (search (rules, p))

pub not_same : (a b : Bool) → Is a ∷ [] ≡ Is b ∷ [] → Is (not a) ∷ [] ≡ Is (not b) ∷ []
not_same a b p = let q : a ≡ b = cc p in ap (λ c. Is (not c) ∷ []) q

pub truth_stays : (xs ys : List Sort) (t : SymbolTruth) → xs ≡ ys → IsMadeTruth ys t → IsMadeTruth xs t
truth_stays xs ys t e h = subst (λ zs. IsMadeTruth zs t) (sym e) h

pub two_same : (a b c d : Bool) → Is a ∷ [] ≡ Is c ∷ [] → Is b ∷ [] ≡ Is d ∷ [] → Is a ∷ Is b ∷ [] ≡ Is c ∷ Is d ∷ []
two_same a b c d p q = cc (p, q)
