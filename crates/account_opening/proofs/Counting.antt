-- The numbers of new threads behind a count, and sums over them.
use Rattle.std.proofs.Common.{◌≡◌, ℕ, zero, suc, ◌+◌, ◌-◌, ◌≤◌, ◌<◌, ℤ, pos, Bool, true, false, ◌&&◌, refl, ap, arith, rules}
use Rattle.std.specs.Prelude.{nat_le, nat_lt, ◌+ℤ◌}
use Rattle.std.proofs.lemmas.Int.{ints}
use Rattle.pv_picks.specs.Formulas.Meeting.{sum_of_each}
use Rattle.pv_picks.proofs.Sames.{front, back}
use Rattle.account_formulas.proofs.Basics.{at_most, is_at_most, both}
use Rattle.account.specs.Owners.{sum_below}
use Rattle.account.proofs.Numbers.{is_below, below_of}

-- whether a number is one of so many behind a count
abbrev pub is_behind : ℕ → ℕ → ℕ → Bool
is_behind count n j = nat_le count j && nat_lt j (count + n)

pub is_number : (count n k : ℕ) → k < n → is_behind count n (count + k) ≡ true
is_number count n k l = both (nat_le count (count + k)) (nat_lt (count + k) (count + n))
    (is_at_most count (count + k) (omega arith)) (is_below (count + k) (count + n) (omega (arith, l)))

pub has_number : (count n j : ℕ) → is_behind count n j ≡ true → (k : ℕ) × (k < n) × (count + k ≡ j)
has_number count n j e =
    by j (at_most count j (front (nat_le count j) (nat_lt j (count + n)) e))
    (below_of j (count + n) (back (nat_le count j) (nat_lt j (count + n)) e))
  where
    by : (j : ℕ) → count ≤ j → j < count + n → (k : ℕ) × (k < n) × (count + k ≡ j)
    by j a b = (j - count, omega (arith, a, b), omega (arith, a))

pub is_before : (count n j : ℕ) → j < count → is_behind count n j ≡ false
is_before count n j l = by (is_behind count n j) refl
  where
    by : (x : Bool) → is_behind count n j ≡ x → x ≡ false
    by false e = refl
    by true e = let k = at_most count j (front (nat_le count j) (nat_lt j (count + n)) e) in absurd (omega (arith, k, l))

pub comes_before : (count n j : ℕ) → is_behind count n j ≡ false → j < count + n → j < count
comes_before count n j e l = by (nat_lt j count) refl
  where
    by : (x : Bool) → nat_lt j count ≡ x → j < count
    by true k = below_of j count k
    by false k =
        let more = both (nat_le count j) (nat_lt j (count + n)) (is_at_most count j (search (rules)))
        (is_below j (count + n) l) in absurd (cc (e, more))

pub difference : (count k : ℕ) → count + k - count ≡ k
difference count k = omega arith

-- the sum over positions, with its last part apart
each_last : (f : ℤ → ℕ) (n : ℕ) (low : ℤ) → sum_of_each f low (suc n) ≡ sum_of_each f low n + f (low +ℤ pos n)
each_last f zero low = let here : low ≡ low +ℤ pos 0 = omega (arith, ints) in let same = ap f here in omega (arith, same)
each_last f (suc n) low =
    let rest = each_last f n (low +ℤ pos 1) in
    let there : low +ℤ pos 1 +ℤ pos n ≡ low +ℤ pos (suc n) = omega (arith, ints) in
    let same = ap f there in omega (arith, rest, same)

pub each_less : (f g : ℤ → ℕ) → ((z : ℤ) → f z ≤ g z) → (n : ℕ) (low : ℤ) → sum_of_each f low n ≤ sum_of_each g low n
each_less f g less zero low = omega arith
each_less f g less (suc n) low =
    let one = less low in let more = each_less f g less n (low +ℤ pos 1) in omega (arith, one, more)

-- the sum over numbers with so many more, by their positions
pub sum_with_more : (f : ℕ → ℕ) (g : ℤ → ℕ) (count : ℕ) (low : ℤ) (n : ℕ)
    → ((k : ℕ) → k < n → f (count + k) ≡ g (low +ℤ pos k)) → sum_below f (count + n) ≡ sum_below f count + sum_of_each g low n
sum_with_more f g count low zero same =
    let none : count + 0 ≡ count = omega arith in let k = ap (sum_below f) none in omega (arith, k)
sum_with_more f g count low (suc n) same =
    let next : count + suc n ≡ suc (count + n) = omega arith in
    let one = ap (sum_below f) next in
    let rest = sum_with_more f g count low n (λ k l. same k (omega (arith, l))) in
    let last = each_last g n low in
    let here = same n (omega arith) in
    omega (arith, one, rest, last, here)
