use Rattle.soundness.proofs.Runs.{accounted}
use Rattle.soundness.proofs.reached_worlds_are_accounted_for.Goals as goal

pub returns : goal.returns
returns c = accounted
