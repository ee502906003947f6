use Rattle.machine_loops.proofs.Programs.{loops_agree}
use Rattle.machine_loops.proofs.loops_agree_by_soundness.Goals as goal

pub returns : goal.returns
returns c = loops_agree
