use Rattle.std.proofs.Common.{refl}
use Rattle.worked_runs.proofs.members_of_an_ordered_loop_wait.Goals as goal

pub returns : goal.returns
returns c = (refl, refl, refl, refl, refl)
