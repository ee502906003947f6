use Rattle.account.proofs.Laws.{local_work}
use Rattle.account.proofs.local_work_keeps_runs.Goals as goal

pub returns : goal.returns
returns c = local_work
