use Rattle.std.proofs.Common.{refl}
use Rattle.worked_runs.proofs.numbers_grow_without_bound.Goals as goal

pub returns : goal.returns
returns c = (refl, refl)
