use Rattle.std.proofs.Common.{refl}
use Rattle.worked_runs.proofs.members_copy_and_send.Goals as goal

pub returns : goal.returns
returns c = (refl, refl, refl, refl, refl, refl)
