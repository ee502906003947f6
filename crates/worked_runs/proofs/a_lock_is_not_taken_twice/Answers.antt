use Rattle.std.proofs.Common.{refl}
use Rattle.worked_runs.proofs.a_lock_is_not_taken_twice.Goals as goal

pub returns : goal.returns
returns c = (refl, refl, refl, refl, refl)
