-- The symbols of equations, gathered.
use Rattle.std.proofs.Common.{◌≡◌, ℕ, zero, suc, pos, ◌+◌, ◌<◌, ◌≤◌, List, [], ◌∷◌, ◌++◌, length, slice_index_or, Some, refl, ap, sym, subst, arith, ◌∙◌, ◌⊎◌, inl, inr}
use Rattle.std.specs.Prelude.{slice_get, Contains}
use Rattle.std.proofs.lemmas.List.Elements.{Contains-append_left, Contains-append_right, Contains-append_cases, Contains-push_cases}
use Rattle.std.proofs.lemmas.Option.{slice_get-get_or}
use Rattle.pv_linear.specs.declared.Literal.{Literal}
use Rattle.pv_linear.specs.declared.Literal.TheVariants.{AtMost, Same, Differ}
use Rattle.pv_linear.specs.Sorting.{IsReferenceIn, IsReferenceAmong}
use Rattle.pv_diff.specs.Slots.{references_in, AreOnlyReferences}
use Rattle.pv_diff.proofs.Loops.{same_or_other}

-- the references of the literals before i are in the list
abbrev pub NamedUnder : List Literal → List ℕ → ℕ → Type 0
NamedUnder ls s i = (p k : ℕ) (l : Literal) → p < i → slice_get ls p ≡ Some l → Contains (references_in l) k → Contains s k

pub few_references : (l : Literal) → length (references_in l) ≤ 2
few_references (AtMost x y c) = omega arith
few_references (Same x y) = omega arith
few_references (Differ x y) = omega arith

pub NamedUnder-more : (ls : List Literal) (s : List ℕ) (i : ℕ) (d : Literal) → i < length ls → NamedUnder ls s i
    → NamedUnder ls (s ++ references_in (slice_index_or ls i d)) (i + 1)
NamedUnder-more ls s i d lt h p k l le g c = elim (same_or_other p i) [
  | inl same ↦
      let q : Some (slice_index_or ls i d) ≡ Some l = sym (slice_get-get_or ls i d lt) ∙ sym (ap (slice_get ls) same) ∙ g in
      let e : slice_index_or ls i d ≡ l = cc in
      Contains-append_right s (references_in (slice_index_or ls i d)) k
      (subst (λ (m : Literal). Contains (references_in m) k) (sym e) c)
  | inr other ↦ Contains-append_left s (references_in (slice_index_or ls i d)) k (h p k l (omega arith) g c)
]

in_pair : (a b k : ℕ) → Contains (a ∷ b ∷ []) k → (a ≡ k) ⊎ (b ≡ k)
in_pair a b k (zero, lt, e) = inl e
in_pair a b k (suc zero, lt, e) = inr e
in_pair a b k (suc (suc i), lt, e) = absurd (omega arith)

reference_in : (l : Literal) (k : ℕ) → Contains (references_in l) k → IsReferenceIn l k
reference_in (AtMost x y c) k h = let lt = h.1 in omega arith
reference_in (Same x y) k h = in_pair x.0 y.0 k h
reference_in (Differ x y) k h = in_pair x.0 y.0 k h

reference_among : (ls : List Literal) (i k : ℕ) (d : Literal) → i < length ls → Contains (references_in (slice_index_or ls i d)) k
    → IsReferenceAmong ls k
reference_among [] i k d lt h = absurd (omega arith)
reference_among (l ∷ ls) zero k d lt h = inl (reference_in l k h)
reference_among (l ∷ ls) (suc i) k d lt h = inr (reference_among ls i k d (omega arith) h)

pub AreOnlyReferences-start : (ls : List Literal) (s : List ℕ) → s ≡ [] → AreOnlyReferences (s ++ 0 ∷ []) ls
AreOnlyReferences-start ls s e k h = elim (Contains-push_cases s 0 k h) [
  | inl c ↦ absurd (let a = ap length e in let b = c.1 in omega (arith, a, b))
  | inr z ↦ inl (sym z)
]

pub AreOnlyReferences-more : (ls : List Literal) (s : List ℕ) (i : ℕ) (d : Literal) → i < length ls → AreOnlyReferences s ls
    → AreOnlyReferences (s ++ references_in (slice_index_or ls i d)) ls
AreOnlyReferences-more ls s i d lt h k c = elim (Contains-append_cases s (references_in (slice_index_or ls i d)) k c) [
  | inl a ↦ h k a
  | inr b ↦ inr (reference_among ls i k d lt b)
]

-- both symbols of an equation, and of its opposite
pub first_in_pair : (a b : ℕ) → Contains (a ∷ b ∷ []) a
first_in_pair a b = (0, omega arith, refl)

pub second_in_pair : (a b : ℕ) → Contains (a ∷ b ∷ []) b
second_in_pair a b = (1, omega arith, refl)

-- the literal at a place
pub literal_at : (ls : List Literal) (i : ℕ) (d l : Literal) → i < length ls → slice_index_or ls i d ≡ l → slice_get ls i ≡ Some l
literal_at ls i d l lt e = slice_get-get_or ls i d lt ∙ ap (λ (m : Literal). Some m) e

-- what the literals are past the end of a list
abbrev pub no_literal : Literal
no_literal = AtMost (record { 0 = 0 }) (record { 0 = 0 }) (pos 0)

abbrev pub literal_at_index : List Literal → ℕ → Literal
literal_at_index ls i = slice_index_or ls i no_literal
