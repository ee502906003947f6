use Rattle.account_formulas.proofs.Laws.{met_alike}
use Rattle.account_formulas.proofs.met_alike.Goals as goal

pub returns : goal.returns
returns c = met_alike
