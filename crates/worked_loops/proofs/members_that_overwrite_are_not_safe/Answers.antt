use Rattle.worked_loops.proofs.Worked.{overwriting-unsafe}
use Rattle.worked_loops.proofs.members_that_overwrite_are_not_safe.Goals as goal

pub returns : goal.returns
returns c = overwriting-unsafe
