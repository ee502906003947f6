use Rattle.std.proofs.Common.{refl}
use Rattle.worked_runs.proofs.workers_fill_an_array.Goals as goal

pub returns : goal.returns
returns c = (refl, refl, refl)
