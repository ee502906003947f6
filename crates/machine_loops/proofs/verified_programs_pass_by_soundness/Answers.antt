use Rattle.machine_loops.proofs.Programs.{passed}
use Rattle.machine_loops.proofs.verified_programs_pass_by_soundness.Goals as goal

pub returns : goal.returns
returns c = passed
