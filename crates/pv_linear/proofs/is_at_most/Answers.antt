-- What the test of a difference says of the sum.
use Rattle.std.proofs.Common.{arith}
use Rattle.std.proofs.lemmas.Int.{ints}
use Rattle.pv_linear.proofs.is_at_most.Goals as goal

pub returns-else-c-lt0 : goal.returns-else-c-lt0
returns-else-c-lt0 c = grind (arith, ints)
