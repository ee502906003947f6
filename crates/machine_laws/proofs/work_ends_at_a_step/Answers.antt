use Rattle.machine_laws.proofs.Work.{settled-rest}
use Rattle.machine_laws.proofs.work_ends_at_a_step.Goals as goal

pub returns : goal.returns
returns c = settled-rest
