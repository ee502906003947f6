use Rattle.machine_laws.proofs.Modes.{waiting-same}
use Rattle.machine_laws.proofs.who_waits_changes_nothing.Goals as goal

pub returns : goal.returns
returns c = waiting-same
