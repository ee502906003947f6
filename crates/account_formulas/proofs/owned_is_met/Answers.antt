use Rattle.account_formulas.proofs.Laws.{owned_is_met}
use Rattle.account_formulas.proofs.owned_is_met.Goals as goal

pub returns : goal.returns
returns c = owned_is_met
