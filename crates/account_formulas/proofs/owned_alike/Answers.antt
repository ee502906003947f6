use Rattle.account_formulas.proofs.Laws.{owned_alike}
use Rattle.account_formulas.proofs.owned_alike.Goals as goal

pub returns : goal.returns
returns c = owned_alike
