use Rattle.machine_loops.proofs.Whole.{safe-agrees}
use Rattle.machine_loops.proofs.safe_programs_agree_on_loops.Goals as goal

pub returns : goal.returns
returns c = safe-agrees
