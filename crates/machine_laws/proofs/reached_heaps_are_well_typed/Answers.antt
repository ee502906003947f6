use Rattle.machine_laws.proofs.Reached.{reached-typed}
use Rattle.machine_laws.proofs.reached_heaps_are_well_typed.Goals as goal

pub returns : goal.returns
returns c = reached-typed
