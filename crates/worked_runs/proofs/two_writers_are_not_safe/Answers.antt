use Rattle.worked_runs.proofs.TwoWriters.{not_safe}
use Rattle.worked_runs.proofs.two_writers_are_not_safe.Goals as goal

pub returns : goal.returns
returns c = not_safe
