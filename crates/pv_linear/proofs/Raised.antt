-- Numbers that meet literals, without a negative one for a reference.
use Rattle.std.proofs.Common.{◌≡◌, ℕ, ℤ, zero, suc, pos, negsuc, ◌+◌, ◌≤ℤ◌, List, [], ◌∷◌, sym, ap, ◌∙◌, refl, arith, ◌⊎◌, inl, inr}
use Rattle.std.proofs.lemmas.Int.{ints}
use Rattle.pv_linear.specs.declared.Literal.{Literal}
use Rattle.pv_linear.specs.declared.Literal.TheVariants.{AtMost, Same, Differ}
use Rattle.pv_linear.specs.Values.{Values, number_of}
use Rattle.pv_linear.specs.Literal.{Holds, Meets}
use Rattle.pv_linear.specs.Sorting.{IsNumberAmong, IsReferenceAmong, IsNumberIn, IsReferenceIn, AreSortsApart}
use Rattle.pv_linear.proofs.Pairs.{nat_same}

-- each number its own one from 0 on, and 0 itself for 0
abbrev pub raised : ℤ → ℤ
raised (pos n) = pos (n + n)
raised (negsuc n) = pos (suc (n + n))

pub raised_apart : (a b : ℤ) → raised a ≡ raised b → a ≡ b
raised_apart (pos m) (pos n) e = let k : m + m ≡ n + n = cc e in ap pos (omega (arith, k))
raised_apart (pos m) (negsuc n) e = let k : m + m ≡ suc (n + n) = cc e in absurd (omega (arith, k))
raised_apart (negsuc m) (pos n) e = let k : suc (m + m) ≡ n + n = cc e in absurd (omega (arith, k))
raised_apart (negsuc m) (negsuc n) e = let k : suc (m + m) ≡ suc (n + n) = cc e in ap negsuc (omega (arith, k))

pub raised_up : (a : ℤ) → pos 0 ≤ℤ raised a
raised_up (pos n) = omega (arith, ints)
raised_up (negsuc n) = omega (arith, ints)

-- whether the symbol stands as a reference can be told
reference_or_in : (l : Literal) (k : ℕ) → IsReferenceIn l k ⊎ (IsReferenceIn l k → ⊥)
reference_or_in (AtMost x y c) k = inr (λ h. h)
reference_or_in (Same x y) k = elim (nat_same x.0 k) [
  | inl e ↦ inl (inl e)
  | inr n ↦ elim (nat_same y.0 k)
      [ inl e ↦ inl (inr e) | inr m ↦ inr (λ h. elim h [ inl e ↦ n e | inr e ↦ m e ]) ]
]
reference_or_in (Differ x y) k = elim (nat_same x.0 k) [
  | inl e ↦ inl (inl e)
  | inr n ↦ elim (nat_same y.0 k)
      [ inl e ↦ inl (inr e) | inr m ↦ inr (λ h. elim h [ inl e ↦ n e | inr e ↦ m e ]) ]
]

pub reference_or : (ls : List Literal) (k : ℕ) → IsReferenceAmong ls k ⊎ (IsReferenceAmong ls k → ⊥)
reference_or [] k = inr (λ h. h)
reference_or (l ∷ ls) k = elim (reference_or_in l k) [
  | inl h ↦ inl (inl h)
  | inr n ↦ elim (reference_or ls k)
      [ inl h ↦ inl (inr h) | inr m ↦ inr (λ h. elim h [ inl a ↦ n a | inr b ↦ m b ]) ]
]

abbrev pick : {A : Type 0} → A ⊎ (A → ⊥) → ℤ → ℤ
pick (inl h) z = raised z
pick (inr n) z = z

-- references have a number of their own from 0 on, the others keep theirs
pub with_raised : Values → List Literal → Values
with_raised v ls k = pick (reference_or ls (suc k)) (v k)

pick_yes : {A : Type 0} (d : A ⊎ (A → ⊥)) (z : ℤ) → A → pick d z ≡ raised z
pick_yes (inl h) z a = refl
pick_yes (inr n) z a = absurd (n a)

pick_no : {A : Type 0} (d : A ⊎ (A → ⊥)) (z : ℤ) → (A → ⊥) → pick d z ≡ z
pick_no (inl h) z n = absurd (n h)
pick_no (inr m) z n = refl

pub raised_at : (v : Values) (ls : List Literal) (k : ℕ) → IsReferenceAmong ls k → number_of (with_raised v ls) k
    ≡ raised (number_of v k)
unfolding number_of with_raised
raised_at v ls zero h = refl
raised_at v ls (suc k) h = pick_yes (reference_or ls (suc k)) (v k) h

pub kept_at : (v : Values) (ls : List Literal) (k : ℕ) → AreSortsApart ls → IsNumberAmong ls k → number_of (with_raised v ls) k
    ≡ number_of v k
unfolding number_of with_raised
kept_at v ls zero apart h = refl
kept_at v ls (suc k) apart h = pick_no (reference_or ls (suc k)) (v k) (apart k h)

holds_raised : (v : Values) (ls : List Literal) (l : Literal) → AreSortsApart ls → ((k : ℕ) → IsNumberIn l k → IsNumberAmong ls k)
    → ((k : ℕ) → IsReferenceIn l k → IsReferenceAmong ls k) → Holds v l → Holds (with_raised v ls) l
holds_raised v ls (AtMost x y c) apart n r h =
    rw (kept_at v ls x.0 apart (n x.0 (inl refl)), kept_at v ls y.0 apart (n y.0 (inr refl))) h
holds_raised v ls (Same x y) apart n r h = rw (raised_at v ls x.0 (r x.0 (inl refl)), raised_at v ls y.0 (r y.0 (inr refl)))
    (ap raised h)
holds_raised v ls (Differ x y) apart n r h = λ e.
    h (raised_apart (number_of v x.0) (number_of v y.0)
    (sym (raised_at v ls x.0 (r x.0 (inl refl))) ∙ e ∙ raised_at v ls y.0 (r y.0 (inr refl))))

meets_raised_in : (v : Values) (ls ms : List Literal) → AreSortsApart ls → ((k : ℕ) → IsNumberAmong ms k → IsNumberAmong ls k)
    → ((k : ℕ) → IsReferenceAmong ms k → IsReferenceAmong ls k) → Meets v ms → Meets (with_raised v ls) ms
meets_raised_in v ls [] apart n r h = tt
meets_raised_in v ls (l ∷ ms) apart n r h = (
  holds_raised v ls l apart (λ k i. n k (inl i)) (λ k i. r k (inl i)) h.0,
  meets_raised_in v ls ms apart (λ k i. n k (inr i)) (λ k i. r k (inr i)) h.1,
)

-- what meets literals in which numbers and references stand apart can be changed at the references alone, so that none is
-- negative
pub meets_raised : (v : Values) (ls : List Literal) → AreSortsApart ls → Meets v ls → Meets (with_raised v ls) ls
meets_raised v ls apart h = meets_raised_in v ls ls apart (λ k i. i) (λ k i. i) h

pub references_up : (v : Values) (ls : List Literal) (k : ℕ) → IsReferenceAmong ls k → pos 0 ≤ℤ number_of (with_raised v ls) k
references_up v ls k h = rw (raised_at v ls k h) (raised_up (number_of v k))

pub is_raised : (v : Values) (ls : List Literal) (k : ℕ) → IsReferenceAmong ls (suc k) → with_raised v ls k ≡ raised (v k)
unfolding with_raised
is_raised v ls k h = pick_yes (reference_or ls (suc k)) (v k) h

pub not_raised : (v : Values) (ls : List Literal) (k : ℕ) → (IsReferenceAmong ls (suc k) → ⊥) → with_raised v ls k ≡ v k
unfolding with_raised
not_raised v ls k h = pick_no (reference_or ls (suc k)) (v k) h
