use Rattle.soundness.proofs.Runs.{safe}
use Rattle.soundness.proofs.verified_programs_are_safe.Goals as goal

pub returns : goal.returns
returns c = safe
