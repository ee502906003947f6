use Rattle.account_formulas.proofs.Laws.{owned_stays}
use Rattle.account_formulas.proofs.owned_stays.Goals as goal

pub returns : goal.returns
returns c = owned_stays
