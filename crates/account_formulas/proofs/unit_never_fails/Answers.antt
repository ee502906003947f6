use Rattle.account_formulas.proofs.Laws.{unit_never_fails}
use Rattle.account_formulas.proofs.unit_never_fails.Goals as goal

pub returns : goal.returns
returns c = unit_never_fails
