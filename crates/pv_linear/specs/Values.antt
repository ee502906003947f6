-- What symbols and terms stand for.
use Rattle.std.specs.Prelude.{ℕ, zero, suc, ℤ, pos, ◌+ℤ◌, ◌≤ℤ◌, List, slice_index_or}
use Rattle.pv_linear.specs.declared.Term.{Term}

-- a number for each symbol from 1 on
abbrev pub Values : Type 0
Values = ℕ → ℤ

-- the number of a symbol: symbol 0 is zero
unfoldable pub number_of : Values → ℕ → ℤ
number_of v zero = pos 0
number_of v (suc k) = v k

-- the number that a term stands for
abbrev pub term_value : Values → Term → ℤ
term_value v t = number_of v t.symbol.0 +ℤ t.plus

-- the values that a list of numbers by symbol gives: zero past its end
abbrev pub values_of : List ℤ → Values
values_of numbers k = slice_index_or numbers (suc k) (pos 0)

-- at most n from zero
pub record IsWithin (n : ℕ) (z : ℤ) : Type 0 where
  pub low : pos 0 ≤ℤ (z +ℤ pos n)
  pub high : z ≤ℤ pos n
