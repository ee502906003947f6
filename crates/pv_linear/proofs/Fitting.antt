-- Where the literals among decisions can be met, and the decisions keep the sorts, there is evidence on which the run takes no
-- negative reference.
use Rattle.std.proofs.Common.{◌≡◌, ℕ, ℤ, zero, suc, pos, ◌≤ℤ◌, List, [], ◌∷◌, refl, ◌⊎◌, inl, inr, arith}
use Rattle.std.specs.Prelude.{slice_get}
use Rattle.std.proofs.lemmas.Int.{ints}
use Rattle.std.proofs.Math.Logic.{∥∥₁_map}
use Rattle.pv_linear.specs.declared.Sort.{Sort}
use Rattle.pv_linear.specs.declared.Literal.{Literal}
use Rattle.pv_linear.specs.declared.Literal.TheVariants.{AtMost, Same, Differ}
use Rattle.pv_linear.specs.Values.{Values, number_of}
use Rattle.pv_linear.specs.Literal.{Holds, Meets}
use Rattle.pv_linear.specs.Sorting.{IsNumberIn, IsReferenceIn, IsNumberAmong, IsReferenceAmong, AreSortsApart}
use Rattle.pv_linear.specs.Evidence.{Evidence, HasTurns, CanBeMet, evidence_of}
use Rattle.pv_linear.specs.Decisions.{Decision, AllBelow, AreNumbered, Agrees, literals_in, turns_in}
use Rattle.pv_linear.specs.Keeping.{Fits, Member, HasMember, KeepSorts}
use Rattle.pv_linear.proofs.Pairs.{nat_same}
use Rattle.pv_linear.proofs.DecisionLemmas.{meets_agrees}
use Rattle.pv_linear.proofs.SortingLemmas.{number_among}
use Rattle.pv_linear.proofs.SortsKept.{kept_sorts}
use Rattle.pv_linear.proofs.Raised.{raised_up, with_raised, reference_or, meets_raised, is_raised, not_raised}

number_or_in : (l : Literal) (k : ℕ) → IsNumberIn l k ⊎ (IsNumberIn l k → ⊥)
number_or_in (AtMost x y c) k = elim (nat_same x.0 k) [
  | inl e ↦ inl (inl e)
  | inr n ↦ elim (nat_same y.0 k)
      [ inl e ↦ inl (inr e) | inr m ↦ inr (λ h. elim h [ inl e ↦ n e | inr e ↦ m e ]) ]
]
number_or_in (Same x y) k = inr (λ h. h)
number_or_in (Differ x y) k = inr (λ h. h)

number_or : (ls : List Literal) (k : ℕ) → IsNumberAmong ls k ⊎ (IsNumberAmong ls k → ⊥)
number_or [] k = inr (λ h. h)
number_or (l ∷ ls) k = elim (number_or_in l k) [
  | inl h ↦ inl (inl h)
  | inr n ↦ elim (number_or ls k)
      [ inl h ↦ inl (inr h) | inr m ↦ inr (λ h. elim h [ inl a ↦ n a | inr b ↦ m b ]) ]
]

abbrev keep_if : {A B : Type 0} → A ⊎ (A → ⊥) → B ⊎ (B → ⊥) → ℤ → ℤ
keep_if (inl a) b z = z
keep_if (inr n) (inl b) z = z
keep_if (inr n) (inr m) z = pos 0

-- 0 for each symbol that the literals don't have
with_zeros : Values → List Literal → Values
with_zeros v ls k = keep_if (number_or ls (suc k)) (reference_or ls (suc k)) (v k)

kept_number : {A B : Type 0} (a : A ⊎ (A → ⊥)) (b : B ⊎ (B → ⊥)) (z : ℤ) → A → keep_if a b z ≡ z
kept_number (inl h) b z x = refl
kept_number (inr n) b z x = absurd (n x)

kept_reference : {A B : Type 0} (a : A ⊎ (A → ⊥)) (b : B ⊎ (B → ⊥)) (z : ℤ) → B → keep_if a b z ≡ z
kept_reference (inl h) b z x = refl
kept_reference (inr n) (inl h) z x = refl
kept_reference (inr n) (inr m) z x = absurd (m x)

zero_else : {A B : Type 0} (a : A ⊎ (A → ⊥)) (b : B ⊎ (B → ⊥)) (z : ℤ) → (A → ⊥) → (B → ⊥) → keep_if a b z ≡ pos 0
zero_else (inl h) b z n m = absurd (n h)
zero_else (inr k) (inl h) z n m = absurd (m h)
zero_else (inr k) (inr j) z n m = refl

number_kept : (v : Values) (ls : List Literal) (k : ℕ) → IsNumberAmong ls k → number_of (with_zeros v ls) k ≡ number_of v k
unfolding number_of with_zeros
number_kept v ls zero h = refl
number_kept v ls (suc k) h = kept_number (number_or ls (suc k)) (reference_or ls (suc k)) (v k) h

reference_kept : (v : Values) (ls : List Literal) (k : ℕ) → IsReferenceAmong ls k → number_of (with_zeros v ls) k ≡ number_of v k
unfolding number_of with_zeros
reference_kept v ls zero h = refl
reference_kept v ls (suc k) h = kept_reference (number_or ls (suc k)) (reference_or ls (suc k)) (v k) h

holds_zeros : (v : Values) (ls : List Literal) (l : Literal) → ((k : ℕ) → IsNumberIn l k → IsNumberAmong ls k)
    → ((k : ℕ) → IsReferenceIn l k → IsReferenceAmong ls k) → Holds v l → Holds (with_zeros v ls) l
holds_zeros v ls (AtMost x y c) n r h = rw (number_kept v ls x.0 (n x.0 (inl refl)), number_kept v ls y.0 (n y.0 (inr refl))) h
holds_zeros v ls (Same x y) n r h = rw (reference_kept v ls x.0 (r x.0 (inl refl)), reference_kept v ls y.0 (r y.0 (inr refl))) h
holds_zeros v ls (Differ x y) n r h = rw (reference_kept v ls x.0 (r x.0 (inl refl)), reference_kept v ls y.0 (r y.0 (inr refl)))
    h

meets_zeros_in : (v : Values) (ls ms : List Literal) → ((k : ℕ) → IsNumberAmong ms k → IsNumberAmong ls k)
    → ((k : ℕ) → IsReferenceAmong ms k → IsReferenceAmong ls k) → Meets v ms → Meets (with_zeros v ls) ms
meets_zeros_in v ls [] n r h = tt
meets_zeros_in v ls (l ∷ ms) n r h = (
  holds_zeros v ls l (λ k i. n k (inl i)) (λ k i. r k (inl i)) h.0,
  meets_zeros_in v ls ms (λ k i. n k (inr i)) (λ k i. r k (inr i)) h.1,
)

-- values that are not negative but where the literals have numbers; they meet the literals where the others do
pub fitted : Values → List Literal → Values
fitted v ls = with_raised (with_zeros v ls) ls

pub fitted_meets : (v : Values) (ls : List Literal) → AreSortsApart ls → Meets v ls → Meets (fitted v ls) ls
unfolding fitted
fitted_meets v ls apart m = meets_raised (with_zeros v ls) ls apart (meets_zeros_in v ls ls (λ k i. i) (λ k i. i) m)

pub fitted_up : (v : Values) (ls : List Literal) (k : ℕ) → (IsNumberAmong ls (suc k) → ⊥) → pos 0 ≤ℤ fitted v ls k
unfolding fitted with_zeros
fitted_up v ls k n = elim (reference_or ls (suc k)) [
  | inl h ↦ (let e = is_raised (with_zeros v ls) ls k h in rw e (raised_up (with_zeros v ls k)))
  | inr m ↦ (let e = not_raised (with_zeros v ls) ls k m in let z =
      zero_else (number_or ls (suc k)) (reference_or ls (suc k)) (v k) n m in rw (e, z) (omega (arith, ints)))
]

-- evidence that fits, of values that meet the literals
pub fit_with : (takes : Evidence → List Sort) (ds : List Decision) → AreNumbered 0 ds → AllBelow (turns_in ds)
    → AreSortsApart (literals_in ds) → KeepSorts takes ds → (v : Values) → Meets v (literals_in ds) → Member (Fits takes) ds
fit_with takes ds numbered below apart keep v m =
    let ls = literals_in ds in
    let e : Evidence = evidence_of (fitted v ls) (turns_in ds) in
    let a : Agrees e ds = meets_agrees (fitted v ls) ds numbered (fitted_meets v ls apart m) in
    record {
      evidence = e;
      has_it = record {
        below = below;
        up = λ k taken. elim (number_or ls (suc k)) [
          | inl n ↦ absurd (number_among (slice_get (takes e)) ls k (kept_sorts takes ds e keep below a) n taken)
          | inr n ↦ fitted_up v ls k n
        ];
      };
      agrees = a;
    }

pub fit_member : (takes : Evidence → List Sort) (ds : List Decision) → AreNumbered 0 ds → AllBelow (turns_in ds)
    → AreSortsApart (literals_in ds) → KeepSorts takes ds → CanBeMet (literals_in ds) → HasMember (Fits takes) ds
fit_member takes ds numbered below apart keep met =
    ∥∥₁_map met (λ s. fit_with takes ds numbered below apart keep s.values s.meets)

-- evidence that agrees with the decisions fits, where it gives a negative number only to symbols that stand as numbers
pub found_fits : (takes : Evidence → List Sort) (ds : List Decision) (e : Evidence) → KeepSorts takes ds → HasTurns e
    → Agrees e ds
    → ((k : ℕ) → (IsNumberAmong (literals_in ds) (suc k) → ⊥) → pos 0 ≤ℤ e.values k) → Fits takes e
found_fits takes ds e keep t a signed = record {
  below = t;
  up = λ k taken. signed k (λ n. number_among (slice_get (takes e)) (literals_in ds) k (kept_sorts takes ds e keep t a) n taken);
}
