-- Lists of literals, and what meets them.
use Rattle.std.proofs.Common.{◌≡◌, ℕ, ℤ, pos, zero, suc, ◌-◌, ◌<◌, ◌≤◌, ◌+ℤ◌, ◌-ℤ◌, List, [], ◌∷◌, ◌++◌, length, refl, ap, sym, subst, ◌∙◌, ◌⊎◌, inl, inr, arith, nat_eq, rules}
use Rattle.std.specs.Prelude.{slice_index_or, max, if◌then◌else◌}
use Rattle.std.proofs.Math.Logic.{∥∥₁_elim, ∥∥₁_prop}
use Rattle.std.proofs.lemmas.Int.{ints}
use Rattle.pv_linear.specs.declared.Symbol.{Symbol}
use Rattle.pv_linear.specs.declared.Literal.{Literal}
use Rattle.pv_linear.specs.declared.Literal.TheVariants.{AtMost, Same, Differ}
use Rattle.pv_linear.specs.Values.{Values, number_of}
use Rattle.pv_linear.specs.Literal.{Holds, Meets, opposite}
use Rattle.pv_linear.specs.Evidence.{CanBeMet}
use Rattle.pv_linear.proofs.MeetsLemmas.{Meets-append}
use Rattle.pv_path.specs.Standing.{IsOpen, highest_among, HasNewSymbol, HasSymbol, AreWithout, IsFree, HasFreeSymbol}

pub highest_among-append : (xs ys : List Literal) → highest_among (xs ++ ys) ≡ max (highest_among xs) (highest_among ys)
highest_among-append [] ys = omega arith
highest_among-append (x ∷ xs) ys = omega (arith, highest_among-append xs ys)

-- a literal of the list holds where all do
pub meets_at : (v : Values) (ls : List Literal) (i : ℕ) (d l : Literal) → i < length ls → slice_index_or ls i d ≡ l → Meets v ls
    → Holds v l
meets_at v [] i d l lt e h = absurd (omega arith)
meets_at v (x ∷ xs) zero d l lt e h = subst (Holds v) e h.0
meets_at v (x ∷ xs) (suc i) d l lt e h = meets_at v xs i d l (omega arith) e h.1

-- the values with another number for the symbol after k
abbrev changed : Values → ℕ → ℤ → Values
changed v k z j = if nat_eq j k then z else v j

changed_there : (v : Values) (k : ℕ) (z : ℤ) → number_of (changed v k z) (suc k) ≡ z
unfolding number_of
changed_there v k z = search rules

changed_elsewhere : (v : Values) (k : ℕ) (z : ℤ) (j : ℕ) → (j ≡ suc k → ⊥) → number_of (changed v k z) j ≡ number_of v j
unfolding number_of
changed_elsewhere v k z zero n = refl
changed_elsewhere v k z (suc j) n = search rules

-- literals without a symbol don't see its number
free_same : (v : Values) (k : ℕ) (z : ℤ) (l : Literal) → (HasSymbol l (suc k) → ⊥) → Holds v l → Holds (changed v k z) l
free_same v k z (AtMost x y c) free h = let p = changed_elsewhere v k z x.0 (λ e. free (inl e)) in let q =
    changed_elsewhere v k z y.0 (λ e. free (inr e)) in rw (p, q) h
free_same v k z (Same x y) free h = let p = changed_elsewhere v k z x.0 (λ e. free (inl e)) in let q =
    changed_elsewhere v k z y.0 (λ e. free (inr e)) in rw (p, q) h
free_same v k z (Differ x y) free h = let p = changed_elsewhere v k z x.0 (λ e. free (inl e)) in let q =
    changed_elsewhere v k z y.0 (λ e. free (inr e)) in rw (p, q) h

meets_free : (v : Values) (k : ℕ) (z : ℤ) (ls : List Literal) → AreWithout ls (suc k) → Meets v ls → Meets (changed v k z) ls
meets_free v k z [] free h = tt
meets_free v k z (l ∷ ls) free h = (free_same v k z l free.0 h.0, meets_free v k z ls free.1 h.1)

-- symbols of one number are equal
symbol_same : (x y : Symbol) → x.0 ≡ y.0 → x ≡ y
symbol_same x y e = let f : ℕ → Symbol = λ n. record { 0 = n } in ap f e

-- a literal with a symbol that the others don't have can be met together with them
free_first : (v : Values) (l : Literal) (ls : List Literal) (x y : Symbol) (z : ℤ) → IsFree ls x.0 → (x ≡ y → ⊥) → Meets v ls
    → ((w : Values) → number_of w x.0 ≡ z → number_of w y.0 ≡ number_of v y.0 → Holds w l) → CanBeMet (ls ++ l ∷ [])
free_first v l ls x y z free apart met holds =
    let k : ℕ = x.0 - 1 in
    let some = free.0 in
    let is : x.0 ≡ suc k = grind (arith, some) in
    let w : Values = changed v k z in
    let one : number_of w x.0 ≡ z = ap (number_of w) is ∙ changed_there v k z in
    let other : number_of w y.0 ≡ number_of v y.0 = changed_elsewhere v k z y.0 (λ e. apart (symbol_same x y (is ∙ sym e))) in
    ∣ record {
      values = w;
      meets = Meets-append w ls (l ∷ []) (meets_free v k z ls (subst (AreWithout ls) is free.1) met)
          (holds w one other, tt);
    } ∣₁

free_met : (v : Values) (l : Literal) (ls : List Literal) → HasFreeSymbol ls l → Meets v ls → CanBeMet (ls ++ l ∷ [])
free_met v (AtMost x y c) ls h met = elim h.1 [
  | inl f ↦ free_first v (AtMost x y c) ls x y (number_of v y.0 +ℤ c) f h.0 met (λ w p q. omega (arith, ints, p, q))
  | inr f ↦ free_first v (AtMost x y c) ls y x (number_of v x.0 -ℤ c) f (λ e. h.0 (sym e)) met
      (λ w p q. omega (arith, ints, p, q))
]
free_met v (Same x y) ls h met = elim h.1 [
  | inl f ↦ free_first v (Same x y) ls x y (number_of v y.0) f h.0 met (λ w p q. p ∙ sym q)
  | inr f ↦ free_first v (Same x y) ls y x (number_of v x.0) f (λ e. h.0 (sym e)) met (λ w p q. q ∙ sym p)
]
free_met v (Differ x y) ls h met = elim h.1 [
  | inl f ↦ free_first v (Differ x y) ls x y (number_of v y.0 +ℤ pos 1) f h.0 met (λ w p q e. omega (arith, ints, p, q, e))
  | inr f ↦ free_first v (Differ x y) ls y x (number_of v x.0 +ℤ pos 1) f (λ e. h.0 (sym e)) met
      (λ w p q e. omega (arith, ints, p, q, e))
]

free_opposite : (ls : List Literal) (l : Literal) → HasFreeSymbol ls l → HasFreeSymbol ls (opposite l)
free_opposite ls (AtMost x y c) h = ((λ e. h.0 (sym e)), elim h.1 [ inl f ↦ inr f | inr f ↦ inl f ])
free_opposite ls (Same x y) h = h
free_opposite ls (Differ x y) h = h

-- so it is undecided
pub free_open : (l : Literal) (ls : List Literal) → HasFreeSymbol ls l → CanBeMet ls → IsOpen ls l
free_open l ls h met = (
  ∥∥₁_elim met ∥∥₁_prop (λ s. free_met s.values l ls h s.meets),
  ∥∥₁_elim met ∥∥₁_prop (λ s. free_met s.values (opposite l) ls (free_opposite ls l h) s.meets),
)

-- a symbol above all those of the literals is free
above_free : (ls : List Literal) (k : ℕ) → highest_among ls < k → AreWithout ls k
above_free [] k h = tt
above_free (AtMost x y c ∷ ls) k h = (
  (λ n. elim n [ inl e ↦ omega (arith, e, h) | inr e ↦ omega (arith, e, h) ]),
  above_free ls k (omega (arith, h)),
)
above_free (Same x y ∷ ls) k h = (
  (λ n. elim n [ inl e ↦ omega (arith, e, h) | inr e ↦ omega (arith, e, h) ]),
  above_free ls k (omega (arith, h)),
)
above_free (Differ x y ∷ ls) k h = (
  (λ n. elim n [ inl e ↦ omega (arith, e, h) | inr e ↦ omega (arith, e, h) ]),
  above_free ls k (omega (arith, h)),
)

above_either : (ls : List Literal) (m n k : ℕ) → highest_among ls ≤ k → k < max m n → IsFree ls m ⊎ IsFree ls n
above_either ls m n k low lt = elim (below_or k m) [
  | inl h ↦ inl ((λ e. omega (arith, e, h)), above_free ls m (omega (arith, low, h)))
  | inr h ↦ inr ((λ e. omega (arith, e, h, lt)), above_free ls n (omega (arith, low, h, lt)))
]
  where
    below_or : (k m : ℕ) → (k < m) ⊎ (m ≤ k)
    below_or k zero = inr (omega arith)
    below_or zero (suc m) = inl (omega arith)
    below_or (suc k) (suc m) = elim (below_or k m) [ inl h ↦ inl (omega (arith, h)) | inr h ↦ inr (omega (arith, h)) ]

new_free : (l : Literal) (ls : List Literal) (n : ℕ) → HasNewSymbol l n → highest_among ls ≤ n → HasFreeSymbol ls l
new_free (AtMost x y c) ls n h low = (h.0, above_either ls x.0 y.0 n low h.1)
new_free (Same x y) ls n h low = (h.0, above_either ls x.0 y.0 n low h.1)
new_free (Differ x y) ls n h low = (h.0, above_either ls x.0 y.0 n low h.1)

pub new_open : (l : Literal) (ls : List Literal) (n : ℕ) → HasNewSymbol l n → highest_among ls ≤ n → CanBeMet ls → IsOpen ls l
new_open l ls n h low met = free_open l ls (new_free l ls n h low) met
