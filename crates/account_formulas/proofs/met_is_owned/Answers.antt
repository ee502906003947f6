use Rattle.account_formulas.proofs.Laws.{met_is_owned}
use Rattle.account_formulas.proofs.met_is_owned.Goals as goal

pub returns : goal.returns
returns c = met_is_owned
