use Rattle.machine_laws.proofs.Work.{settled-enough}
use Rattle.machine_laws.proofs.more_work_changes_nothing.Goals as goal

pub returns : goal.returns
returns c = settled-enough
