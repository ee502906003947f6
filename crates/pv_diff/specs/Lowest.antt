-- What the answer to differences alone says.
use Rattle.std.specs.Prelude.{ℕ, ℤ, pos, ◌<ℤ◌, List, slice_index_or}
use Rattle.pv_linear.specs.declared.Literal.{Literal}
use Rattle.pv_linear.specs.Literal.{Meets}
use Rattle.pv_linear.specs.Values.{values_of, IsWithin}
use Rattle.pv_diff.specs.declared.differences.Lowest.{Lowest}
use Rattle.pv_diff.specs.declared.differences.Lowest.TheVariants.{Numbers, Cycle}
use Rattle.pv_diff.specs.Answer.{reach, IsInDifference}
use Rattle.pv_diff.specs.Conflict.{IsNegativeCycle}

-- the numbers meet the differences, are near zero, and below it only for their symbols
pub record AreLowest (differences : List Literal) (numbers : List ℤ) : Type 0 where
  pub meets : Meets (values_of numbers) differences
  pub near : (k : ℕ) → IsWithin (reach differences) (slice_index_or numbers k (pos 0))
  pub signed : (k : ℕ) → slice_index_or numbers k (pos 0) <ℤ pos 0 → IsInDifference differences k

-- such numbers, or a negative cycle
abbrev pub IsLowest : List Literal → Lowest → Type 0
IsLowest differences (Numbers numbers) = AreLowest differences numbers.items
IsLowest differences (Cycle places) = IsNegativeCycle differences places
