-- Any value of a type can be picked, and any values of a range.
use Rattle.std.proofs.Common.{◌≡◌, ◌≤◌, ◌<◌, ℕ, zero, suc, ℤ, pos, Bool, true, false, if◌then◌else◌, List, [], ◌∷◌, refl, ap, sym, ◌∙◌, arith}
use Rattle.std.specs.Prelude.{nat_le, int_le, int_lt, ◌+ℤ◌}
use Rattle.std.proofs.lemmas.Int.{ints}
use Rattle.pv_ast.specs.declared.PvType.{PvType}
use Rattle.pv_ast.specs.declared.PvType.TheVariants.{Int, Truth, Object, IntArray, TruthArray, Null}
use Rattle.pv_values.specs.Heaps.{same_number}
use Rattle.pv_values.specs.declared.value.Value.{Value}
use Rattle.pv_values.specs.declared.value.Value.TheVariants as value
use Rattle.pv_picks.specs.declared.evidence.StepPair.{StepPair}
use Rattle.pv_picks.specs.Formulas.Heaps.{Heap}
use Rattle.pv_picks.specs.Judge.States.{State}
use Rattle.pv_picks.specs.Judge.Settings.{Next, as_truth, met_as, pick_value}
use Rattle.pv_picks.specs.Judge.Runs.{Judged, Maps, step_from}
use Rattle.pv_picks.specs.Typing.Frames.{HasType}
use Rattle.account_formulas.specs.Runs.{Taken, truly, RestNeverFails}
use Rattle.account_formulas.specs.Growing.{IsPicked, AllBelow}
use Rattle.pv_picks.specs.Typing.Heaps.{IsUnused, IsArrayOf}
use Rattle.pv_base.specs.declared.Name.{Name}
use Rattle.pv_values.specs.Typing.{is_number, is_truth, Refers}
use Rattle.std.proofs.lemmas.Option.{none-some}
use Rattle.account_formulas.proofs.Basics.{at_most, is_at_most, above, not_false}
use Rattle.pv_picks.proofs.Sames.{numbers_same}
use Rattle.account_formulas.proofs.Lengths.{never_number}

abbrev pub having_met : State → List (PvType × ℕ) → State
having_met t met = record t { met = met }

pub beyond_it : (n m : ℕ) → (n ≤ m → ⊥) → m < n
beyond_it zero m f = absurd (f (omega arith))
beyond_it (suc n) zero f = omega arith
beyond_it (suc n) (suc m) f = let k = beyond_it n m (λ h. f (omega (arith, h))) in omega (arith, k)

pub not_beyond : (n m : ℕ) → (m < n → ⊥) → n ≤ m
not_beyond n m off = go (nat_le n m) refl
  where
    go : (b : Bool) → nat_le n m ≡ b → n ≤ m
    go true e = at_most n m e
    go false e = absurd (off (beyond_it n m (λ k. let h = is_at_most n m k in absurd (cc (e, h)))))

up_to : (present : Heap) (n : ℕ) → (present.count < n → ⊥) → n ≤ present.count
up_to present n off = not_beyond n present.count off

object_below : (present : Heap) → ((n : ℕ) → present.count < n → IsUnused present n) → (class : Name) (n : ℕ)
    → HasType present (Object class) (value.Reference n) → n ≤ present.count
object_below present beyond class zero typed = omega arith
object_below present beyond class (suc n) typed =
    up_to present (suc n) (λ k. absurd (none-some class (sym (beyond (suc n) k).class ∙ typed)))

array_below : (present : Heap) → ((n : ℕ) → present.count < n → IsUnused present n) → (test : Value → Bool) (n : ℕ)
    → Refers (IsArrayOf test present) (value.Reference n) → n ≤ present.count
array_below present beyond test zero typed = omega arith
array_below present beyond test (suc n) typed =
    up_to present (suc n) (λ k. let h = typed.0 in let u = (beyond (suc n) k).length in absurd (cc (h, u)))

pub picking : (taken : Taken) (present : Heap) → ((n : ℕ) → present.count < n → IsUnused present n) → (type : PvType) (v : Value)
    → HasType present type v → IsPicked type → (k : Maps → Value → Next Judged) (t : State) (G : Type 0)
    → ((met : List (PvType × ℕ)) → (AllBelow present.count t.met → AllBelow present.count met)
    → RestNeverFails taken (λ maps. k maps v (having_met t met)) → G)
    → RestNeverFails taken (λ maps. pick_value (truly maps) type (k maps) t) → G
picking taken present beyond Int (value.Number z) typed is k t G found never =
    found t.met (λ b. b) (never_number taken (λ maps z. k maps (value.Number z) t) z never)
picking taken present beyond Int (value.Truth b) typed is k t G found never = absurd (cc typed)
picking taken present beyond Int (value.Reference n) typed is k t G found never = absurd (cc typed)
picking taken present beyond Truth (value.Number z) typed is k t G found never = absurd (cc typed)
picking taken present beyond Truth (value.Truth true) typed is k t G found never =
    found t.met (λ b. b) (never_number taken (λ maps z. k maps (as_truth z) t) (pos 1) never)
picking taken present beyond Truth (value.Truth false) typed is k t G found never =
    found t.met (λ b. b) (never_number taken (λ maps z. k maps (as_truth z) t) (pos 0) never)
picking taken present beyond Truth (value.Reference n) typed is k t G found never = absurd (cc typed)
picking taken present beyond (Object class) (value.Number z) typed is k t G found never = absurd typed
picking taken present beyond (Object class) (value.Truth b) typed is k t G found never = absurd typed
picking taken present beyond (Object class) (value.Reference n) typed is k t G found never =
    found ((Object class, n) ∷ t.met) (λ b. (object_below present beyond class n typed, b))
    (never_number taken (λ maps z. met_as (truly maps) (Object class) z (k maps) t) (pos n) never)
picking taken present beyond IntArray (value.Number z) typed is k t G found never = absurd typed
picking taken present beyond IntArray (value.Truth b) typed is k t G found never = absurd typed
picking taken present beyond IntArray (value.Reference n) typed is k t G found never =
    found ((IntArray, n) ∷ t.met) (λ b. (array_below present beyond is_number n typed, b))
    (never_number taken (λ maps z. met_as (truly maps) IntArray z (k maps) t) (pos n) never)
picking taken present beyond TruthArray (value.Number z) typed is k t G found never = absurd typed
picking taken present beyond TruthArray (value.Truth b) typed is k t G found never = absurd typed
picking taken present beyond TruthArray (value.Reference n) typed is k t G found never =
    found ((TruthArray, n) ∷ t.met) (λ b. (array_below present beyond is_truth n typed, b))
    (never_number taken (λ maps z. met_as (truly maps) TruthArray z (k maps) t) (pos n) never)
picking taken present beyond Null v typed is k t G found never = absurd is

-- Values of a range

abbrev pub pairs_of : (ℤ → ℤ) → ℤ → ℕ → List StepPair
pairs_of g low zero = []
pairs_of g low (suc n) = record { at = low; value = g low } ∷ pairs_of g (low +ℤ pos 1) n

below_pairs : (g : ℤ → ℤ) (n : ℕ) (low i v : ℤ) → int_lt i low ≡ true → step_from v (pairs_of g low n) i ≡ v
below_pairs g zero low i v h = refl
below_pairs g (suc n) low i v h =
    go (below_pairs g n (low +ℤ pos 1) i v (not_false (int_lt i (low +ℤ pos 1)) (λ z. omega (arith, ints)))) (int_le low i) refl
  where
    go : step_from v (pairs_of g (low +ℤ pos 1) n) i ≡ v → (b : Bool) → int_le low i ≡ b
        → (if b then step_from (g low) (pairs_of g (low +ℤ pos 1) n) i else step_from v (pairs_of g (low +ℤ pos 1) n) i) ≡ v
    go rest true e = absurd (omega (arith, ints))
    go rest false e = rest

pub steps_of : (g : ℤ → ℤ) (n : ℕ) (low i : ℤ) (v : ℤ) → int_le low i ≡ true → int_lt i (low +ℤ pos n) ≡ true
    → step_from v (pairs_of g low n) i ≡ g i
steps_of g zero low i v h k = absurd (omega (arith, ints))
steps_of g (suc n) low i v h k = go
    (λ e. steps_of g n (low +ℤ pos 1) i (g low) (above low i h e)
    (not_false (int_lt i (low +ℤ pos 1 +ℤ pos n)) (λ z. omega (arith, ints)))) (int_le low i) refl
  where
    at_low : (b : Bool) → same_number i low ≡ b → (b ≡ false → step_from (g low) (pairs_of g (low +ℤ pos 1) n) i ≡ g i)
        → step_from (g low) (pairs_of g (low +ℤ pos 1) n) i ≡ g i
    at_low true e f = let same : i ≡ low = numbers_same i low e in
        below_pairs g n (low +ℤ pos 1) i (g low) (not_false (int_lt i (low +ℤ pos 1)) (λ z. omega (arith, ints, same)))
        ∙ ap g (sym same)
    at_low false e f = f refl

    go : (same_number i low ≡ false → step_from (g low) (pairs_of g (low +ℤ pos 1) n) i ≡ g i) → (b : Bool) → int_le low i ≡ b
        → (if b then step_from (g low) (pairs_of g (low +ℤ pos 1) n) i else step_from v (pairs_of g (low +ℤ pos 1) n) i) ≡ g i
    go f true e = at_low (same_number i low) refl (λ z. f z)
    go f false e = absurd (cc (e, h))
