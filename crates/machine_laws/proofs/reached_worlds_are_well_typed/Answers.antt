use Rattle.machine_laws.proofs.Reached.{reached-fits}
use Rattle.machine_laws.proofs.reached_worlds_are_well_typed.Goals as goal

pub returns : goal.returns
returns c = reached-fits
