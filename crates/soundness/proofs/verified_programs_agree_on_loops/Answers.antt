use Rattle.soundness.proofs.Runs.{agree}
use Rattle.soundness.proofs.verified_programs_agree_on_loops.Goals as goal

pub returns : goal.returns
returns c = agree
