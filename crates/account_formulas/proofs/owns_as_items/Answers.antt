use Rattle.account_formulas.proofs.Laws.{as_items}
use Rattle.account_formulas.proofs.owns_as_items.Goals as goal

pub returns : goal.returns
returns c = as_items
