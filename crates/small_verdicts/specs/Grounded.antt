-- The ground of a verdict on a small method.
use Rattle.std.specs.Prelude.{ℤ, pos, List, slice_index_or}
use Rattle.pv_ast.specs.declared.Method.{Method}
use Rattle.small_meaning.specs.Running.{Arguments, Check, assert_check, ensures_check}
use Rattle.small_meaning.specs.Grounds.{PassIsRight, EmptyIsRight, FailIsRight}
use Rattle.small_verdicts.specs.declared.SmallCheck.{SmallCheck}
use Rattle.small_verdicts.specs.declared.SmallCheck.TheVariants.{Assert, Ensures}
use Rattle.small_verdicts.specs.declared.SmallVerdict.{SmallVerdict}
use Rattle.small_verdicts.specs.declared.SmallVerdict.TheVariants.{Pass, Empty, Fail}

-- what a check of the code stands for
abbrev pub check_of : SmallCheck → Check
check_of Assert = assert_check
check_of Ensures = ensures_check

-- the number at each place; 0 past the end
abbrev pub arguments_from : List ℤ → Arguments
arguments_from numbers = λ place. slice_index_or numbers place (pos 0)

-- what a verdict says
abbrev pub HasGround : Method → SmallVerdict → Type 0
HasGround m Pass = PassIsRight m
HasGround m Empty = EmptyIsRight m
HasGround m (Fail check span numbers) = FailIsRight m (check_of check) span (arguments_from numbers)
