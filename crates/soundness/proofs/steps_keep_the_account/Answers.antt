use Rattle.soundness.proofs.Runs.{steps_keep}
use Rattle.soundness.proofs.steps_keep_the_account.Goals as goal

pub returns : goal.returns
returns c = steps_keep
