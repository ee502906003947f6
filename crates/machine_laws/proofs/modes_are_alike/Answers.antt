use Rattle.machine_laws.proofs.Modes.{act-alike}
use Rattle.machine_laws.proofs.modes_are_alike.Goals as goal

pub returns : goal.returns
returns c = act-alike
