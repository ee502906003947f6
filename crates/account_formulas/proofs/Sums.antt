-- Sums over a range, and the positions that guards leave of it.
use Rattle.std.proofs.Common.{◌≡◌, ℕ, zero, suc, ◌+◌, ◌≤◌, ℤ, pos, Bool, true, false, if◌then◌else◌, refl, ap, arith}
use Rattle.std.specs.Prelude.{int_le, int_lt, ◌+ℤ◌, ◌-ℤ◌}
use Rattle.std.specs.Int.{int_min, int_max}
use Rattle.std.proofs.lemmas.Int.{ints, clamps}
use Rattle.pv_values.specs.declared.value.Value.{Value}
use Rattle.pv_values.specs.Heaps.{same_number}
use Rattle.pv_picks.specs.Plain.Core.{Cut, Below, UpTo, Above, From, Provided}
use Rattle.pv_picks.specs.Formulas.Values.{number_in, truth_in, within, width}
use Rattle.pv_picks.specs.Formulas.Meeting.{passes, sum_of_each}
use Rattle.pv_picks.specs.Judge.Repetitions.{Range, cut_by}
use Rattle.pv_picks.proofs.Sames.{front, back, numbers_same}
use Rattle.account_formulas.proofs.Basics.{both, not_false, in_width, above}

pub sum_at : (f : ℤ → ℕ) (n : ℕ) (low i : ℤ) → int_le low i ≡ true → int_lt i (low +ℤ pos n) ≡ true → f i ≤ sum_of_each f low n
sum_at f zero low i a b = absurd (omega (arith, ints))
sum_at f (suc n) low i a b =
    go (λ e. sum_at f n (low +ℤ pos 1) i (above low i a e)
    (not_false (int_lt i (low +ℤ pos 1 +ℤ pos n)) (λ z. omega (arith, ints)))) (same_number i low) refl
  where
    go : (same_number i low ≡ false → f i ≤ sum_of_each f (low +ℤ pos 1) n) → (b : Bool) → same_number i low ≡ b
        → f i ≤ f low + sum_of_each f (low +ℤ pos 1) n
    go later true e = let same = ap f (numbers_same i low e) in omega (arith, same)
    go later false e = let more = later e in omega (arith, more)

pub sum_within : (f : ℤ → ℕ) (low high i : ℤ) → within low high i ≡ true → f i ≤ sum_of_each f low (width low high)
sum_within f low high i w = sum_at f (width low high) low i (front (int_le low i) (int_lt i high) w) (in_width low high i w)

pub sum_of_two : (f g : ℤ → ℕ) (n : ℕ) (low : ℤ) → sum_of_each f low n + sum_of_each g low n ≡ sum_of_each (λ i. f i + g i) low n
sum_of_two f g zero low = refl
sum_of_two f g (suc n) low = let more = sum_of_two f g n (low +ℤ pos 1) in omega (arith, more)

-- a position that guards leave is one of the range, and passes the guard
pub cut_passes : (k : Cut) (v : Value) (r : Range) (i : ℤ) → within (cut_by k v r).low (cut_by k v r).high i ≡ true
    → (within r.low r.high i ≡ true) × (passes k i v ≡ true)
cut_passes (Below e) v r i w =
    let a = front (int_le r.low i) (int_lt i (int_min r.high (number_in v))) w in let b =
    back (int_le r.low i) (int_lt i (int_min r.high (number_in v))) w in (
      both _ _ a (not_false (int_lt i r.high) (λ z. omega (arith, ints, clamps))),
      not_false (int_lt i (number_in v)) (λ z. omega (arith, ints, clamps)),
    )
cut_passes (UpTo e) v r i w =
    let a = front (int_le r.low i) (int_lt i (int_min r.high (number_in v +ℤ pos 1))) w in let b =
    back (int_le r.low i) (int_lt i (int_min r.high (number_in v +ℤ pos 1))) w in (
      both _ _ a (not_false (int_lt i r.high) (λ z. omega (arith, ints, clamps))),
      not_false (int_le i (number_in v)) (λ z. omega (arith, ints, clamps)),
    )
cut_passes (Above e) v r i w =
    let a = front (int_le (int_max r.low (number_in v +ℤ pos 1)) i) (int_lt i r.high) w in let b =
    back (int_le (int_max r.low (number_in v +ℤ pos 1)) i) (int_lt i r.high) w in (
      both _ _ (not_false (int_le r.low i) (λ z. omega (arith, ints, clamps))) b,
      not_false (int_lt (number_in v) i) (λ z. omega (arith, ints, clamps)),
    )
cut_passes (From e) v r i w =
    let a = front (int_le (int_max r.low (number_in v)) i) (int_lt i r.high) w in let b =
    back (int_le (int_max r.low (number_in v)) i) (int_lt i r.high) w in (
      both _ _ (not_false (int_le r.low i) (λ z. omega (arith, ints, clamps))) b,
      not_false (int_le (number_in v) i) (λ z. omega (arith, ints, clamps)),
    )
cut_passes (Provided e) v r i w = go (truth_in v) w
  where
    go : (b : Bool) → within (if b then r else record r { high = r.low }).low (if b then r else record r { high = r.low }).high i
        ≡ true → (within r.low r.high i ≡ true) × (b ≡ true)
    go true w = (w, refl)
    go false w =
        let a = front (int_le r.low i) (int_lt i r.low) w in let b =
        back (int_le r.low i) (int_lt i r.low) w in absurd (omega (arith, ints))

-- a position of a range that was moved
pub unshifted : (low high shift i : ℤ) → within (low +ℤ shift) (high +ℤ shift) i ≡ true → within low high (i -ℤ shift) ≡ true
unshifted low high shift i w =
    let a = front (int_le (low +ℤ shift) i) (int_lt i (high +ℤ shift)) w in let b =
    back (int_le (low +ℤ shift) i) (int_lt i (high +ℤ shift)) w in
    both _ _ (not_false (int_le low (i -ℤ shift)) (λ z. omega (arith, ints)))
    (not_false (int_lt (i -ℤ shift) high) (λ z. omega (arith, ints)))
