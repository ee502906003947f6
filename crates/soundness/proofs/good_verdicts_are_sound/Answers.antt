use Rattle.soundness.proofs.Runs.{sound}
use Rattle.soundness.proofs.good_verdicts_are_sound.Goals as goal

pub returns : goal.returns
returns c = sound
