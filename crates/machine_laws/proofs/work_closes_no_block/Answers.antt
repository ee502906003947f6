use Rattle.machine_laws.proofs.Closing.{work_closes_nothing}
use Rattle.machine_laws.proofs.work_closes_no_block.Goals as goal

pub returns : goal.returns
returns c = work_closes_nothing
