use Rattle.worked_runs.proofs.Overwriting.{disagrees}
use Rattle.worked_runs.proofs.members_that_overwrite_disagree.Goals as goal

pub returns : goal.returns
returns c = disagrees
