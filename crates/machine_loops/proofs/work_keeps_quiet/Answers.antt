use Rattle.machine_loops.proofs.Quiet.{settled-quiet}
use Rattle.machine_loops.proofs.work_keeps_quiet.Goals as goal

pub returns : goal.returns
returns c = settled-quiet
