use Rattle.machine_loops.proofs.Calm.{reached-calm}
use Rattle.machine_loops.proofs.loops_stay_quiet.Goals as goal

pub returns : goal.returns
returns c = reached-calm
