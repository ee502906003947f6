use Rattle.account_formulas.proofs.Laws.{gathers}
use Rattle.account_formulas.proofs.items_gathered.Goals as goal

pub returns : goal.returns
returns c = gathers
