use Rattle.account_formulas.proofs.Laws.{values_are_typed}
use Rattle.account_formulas.proofs.values_are_typed.Goals as goal

pub returns : goal.returns
returns c = values_are_typed
