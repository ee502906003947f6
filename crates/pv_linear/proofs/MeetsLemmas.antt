-- Literals on a path.
use Rattle.std.proofs.Common.{◌≡◌, ◌≢◌, ℕ, ℤ, zero, suc, ◌+ℤ◌, List, [], ◌∷◌, ◌++◌, Some, Bool, true, false, IsTrue, ◌↔◌, subst, arith, rules, ◌⊎◌, inl, inr}
use Rattle.std.specs.Prelude.{slice_get}
use Rattle.std.proofs.lemmas.Int.{ints, by_lt_z}
use Rattle.pv_linear.specs.declared.Literal.{Literal}
use Rattle.pv_linear.specs.declared.Literal.TheVariants.{AtMost, Same, Differ}
use Rattle.pv_linear.specs.Values.{Values, number_of}
use Rattle.pv_linear.specs.Literal.{Holds, Meets, opposite}
use Rattle.pv_linear.specs.Evidence.{Evidence, Follows, answered}

pub Meets-left : (v : Values) (xs ys : List Literal) → Meets v (xs ++ ys) → Meets v xs
Meets-left v [] ys h = tt
Meets-left v (x ∷ xs) ys h = (h.0, Meets-left v xs ys h.1)

pub Meets-right : (v : Values) (xs ys : List Literal) → Meets v (xs ++ ys) → Meets v ys
Meets-right v [] ys h = h
Meets-right v (x ∷ xs) ys h = Meets-right v xs ys h.1

pub Meets-append : (v : Values) (xs ys : List Literal) → Meets v xs → Meets v ys → Meets v (xs ++ ys)
Meets-append v [] ys h k = k
Meets-append v (x ∷ xs) ys h k = (h.0, Meets-append v xs ys h.1 k)

-- two numbers are equal, or one is below the other
same_number : (a b : ℤ) → (a ≡ b) ⊎ (a ≢ b)
same_number a b = by_lt_z a b (λ h. inr (λ e. omega (arith, ints)))
    (λ h. by_lt_z b a (λ k. inr (λ e. omega (arith, ints))) (λ k. inl (omega (arith, ints))))

-- the opposite holds exactly where the literal does not
pub opposite_holds : (v : Values) (l : Literal) → (Holds v l → ⊥) → Holds v (opposite l)
opposite_holds v (AtMost x y c) h = by_lt_z (number_of v y.0 +ℤ c) (number_of v x.0) (λ k. omega (arith, ints))
    (λ k. absurd (h k))
opposite_holds v (Same x y) h = h
opposite_holds v (Differ x y) h = elim (same_number (number_of v x.0) (number_of v y.0)) [ inl e ↦ e | inr n ↦ absurd (h n) ]

pub opposite_denies : (v : Values) (l : Literal) → Holds v (opposite l) → Holds v l → ⊥
opposite_denies v (AtMost x y c) h k = omega (arith, ints)
opposite_denies v (Same x y) h k = h k
opposite_denies v (Differ x y) h k = k h

-- each of the literals holds
pub Meets-get : (v : Values) (ls : List Literal) (p : ℕ) (l : Literal) → Meets v ls → slice_get ls p ≡ Some l → Holds v l
Meets-get v [] p l h e = cc
Meets-get v (a ∷ ls) zero l h e = let k : a ≡ l = cc in subst (Holds v) k h.0
Meets-get v (a ∷ ls) (suc p) l h e = Meets-get v ls p l h.1 e

-- an answer says whether the literal holds
pub answered_says : (v : Values) (l : Literal) (told : Bool) → Holds v (answered l told) → IsTrue told ↔ Holds v l
answered_says v l true h = (λ _. h, λ _. search rules)
answered_says v l false h = (λ t. search rules, λ k. absurd (opposite_denies v l h k))

-- a question narrows the evidence
pub Follows-front : (e : Evidence) (ls ms : List Literal) (ts : List ℕ) → Follows (ls ++ ms) ts e → Follows ls ts e
unfolding Follows
Follows-front e ls ms ts h = (Meets-left e.values ls ms h.0, h.1)

-- an answer says under the path whether the literal holds
pub Follows-says : (e : Evidence) (ls : List Literal) (l : Literal) (told : Bool) (ts : List ℕ)
    → Follows (ls ++ answered l told ∷ []) ts e → IsTrue told ↔ Holds e.values l
unfolding Follows
Follows-says e ls l told ts h = answered_says e.values l told (Meets-right e.values ls (answered l told ∷ []) h.0).0
