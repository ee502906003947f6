use Rattle.machine_laws.proofs.Reached.{start-fits}
use Rattle.machine_laws.proofs.starts_are_typed.Goals as goal

pub returns : goal.returns
returns c = start-fits
