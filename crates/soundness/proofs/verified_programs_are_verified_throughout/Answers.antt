use Rattle.soundness.proofs.Verifying.{verified_throughout}
use Rattle.soundness.proofs.verified_programs_are_verified_throughout.Goals as goal

pub returns : goal.returns
returns c = verified_throughout
