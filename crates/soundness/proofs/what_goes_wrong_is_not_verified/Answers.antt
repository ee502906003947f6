use Rattle.soundness.proofs.Runs.{wrong_is_refused}
use Rattle.soundness.proofs.what_goes_wrong_is_not_verified.Goals as goal

pub returns : goal.returns
returns c = wrong_is_refused
