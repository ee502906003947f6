-- Numbers below a count, and the numbers of a range's positions.
use Rattle.std.proofs.Common.{◌≡◌, ℕ, ◌<◌, ℤ, pos, negsuc, ◌-ℤ◌, ◌+ℤ◌, true, refl, arith, rules}
use Rattle.std.specs.Prelude.{nat_lt, int_le, int_lt}
use Rattle.std.proofs.lemmas.Int.{ints}
use Rattle.pv_picks.specs.Formulas.Values.{within, width, or_zero}
use Rattle.account_formulas.proofs.Basics.{both, not_false}

-- what the test says
pub is_below : (m n : ℕ) → m < n → nat_lt m n ≡ true
is_below m n h = search (rules)

pub below_of : (m n : ℕ) → nat_lt m n ≡ true → m < n
below_of m n h = search (rules)

-- each number of a range's width is one of its positions
pub number_within : (low high : ℤ) (n : ℕ) → n < width low high → within low high (low +ℤ pos n) ≡ true
number_within low high n l = both _ _ (not_false (int_le low (low +ℤ pos n)) (λ z. omega (arith, ints)))
    (go (high -ℤ low) refl l)
  where
    go : (d : ℤ) → high -ℤ low ≡ d → n < or_zero d → int_lt (low +ℤ pos n) high ≡ true
    go (pos d) e k = not_false (int_lt (low +ℤ pos n) high) (λ z. omega (arith, ints, e, k))
    go (negsuc d) e k = absurd (omega (arith, k))
