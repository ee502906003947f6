use Rattle.machine_laws.proofs.Stands.{reached-label}
use Rattle.machine_laws.proofs.who_has_not_ended_has_a_label.Goals as goal

pub returns : goal.returns
returns c = reached-label
