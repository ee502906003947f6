use Rattle.machine_laws.proofs.Ordered.{ordered_runs-same}
use Rattle.machine_laws.proofs.the_ordered_run_is_one.Goals as goal

pub returns : goal.returns
returns c = ordered_runs-same
