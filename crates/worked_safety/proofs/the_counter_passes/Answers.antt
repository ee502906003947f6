use Rattle.worked_safety.proofs.Verified.{counter_passes}
use Rattle.worked_safety.proofs.the_counter_passes.Goals as goal

pub returns : goal.returns
returns c = counter_passes
