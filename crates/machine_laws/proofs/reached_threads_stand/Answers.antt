use Rattle.machine_laws.proofs.Stands.{reached-standing}
use Rattle.machine_laws.proofs.reached_threads_stand.Goals as goal

pub returns : goal.returns
returns c = reached-standing
