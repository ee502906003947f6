use Rattle.account_formulas.proofs.Laws.{local_work_is_still}
use Rattle.account_formulas.proofs.local_work_is_still.Goals as goal

pub returns : goal.returns
returns c = local_work_is_still
