-- Distances from zero.
use Rattle.std.proofs.Common.{◌≡◌, ℕ, zero, suc, ℤ, pos, negsuc, ◌<◌, ◌≤◌, List, [], ◌∷◌, ◌++◌, length, arith}
use Rattle.std.specs.Prelude.{unsigned_abs, max, slice_index_or}
use Rattle.std.proofs.lemmas.Int.{ints}
use Rattle.pv_linear.specs.declared.Literal.{Literal}
use Rattle.pv_linear.specs.declared.Literal.TheVariants.{AtMost, Same, Differ}
use Rattle.pv_linear.specs.Values.{IsWithin}
use Rattle.pv_linear.specs.Literal.{IsBounded, bound_of, bound_of_all}

pub within_abs : (z : ℤ) → IsWithin (unsigned_abs z) z
within_abs (pos n) = record { low = omega (arith, ints); high = omega (arith, ints) }
within_abs (negsuc n) = record { low = omega (arith, ints); high = omega (arith, ints) }

pub within_more : (m n : ℕ) (z : ℤ) → IsWithin m z → m ≤ n → IsWithin n z
within_more m n z h k = record { low = omega (arith, ints, h.low); high = omega (arith, ints, h.high) }

pub abs_within : (n : ℕ) (z : ℤ) → IsWithin n z → unsigned_abs z ≤ n
abs_within n (pos k) h = omega (arith, ints, h.high)
abs_within n (negsuc k) h = omega (arith, ints, h.low)

pub bound_of_bounded : (n : ℕ) (l : Literal) → IsBounded n l → bound_of l ≤ n
bound_of_bounded n (AtMost x y c) h = abs_within n c h
bound_of_bounded n (Same x y) h = omega arith
bound_of_bounded n (Differ x y) h = omega arith

pub bounded_by : (n : ℕ) (l : Literal) → bound_of l ≤ n → IsBounded n l
bounded_by n (AtMost x y c) h = within_more (unsigned_abs c) n c (within_abs c) h
bounded_by n (Same x y) h = tt
bounded_by n (Differ x y) h = tt

pub bound_of_all-append : (xs ys : List Literal) → bound_of_all (xs ++ ys) ≡ max (bound_of_all xs) (bound_of_all ys)
bound_of_all-append [] ys = omega arith
bound_of_all-append (x ∷ xs) ys = omega (arith, bound_of_all-append xs ys)

-- a literal of the list is bounded as the list is
pub bound_at : (ls : List Literal) (i : ℕ) (d : Literal) (n m : ℕ) → bound_of_all ls ≤ n → n ≤ m → i < length ls
    → IsBounded m (slice_index_or ls i d)
bound_at [] i d n m h le lt = absurd (omega arith)
bound_at (a ∷ ls) zero d n m h le lt = bounded_by m a (omega arith)
bound_at (a ∷ ls) (suc i) d n m h le lt = bound_at ls i d n m (omega arith) le (omega arith)
