use Rattle.account_formulas.proofs.Laws.{as_formula}
use Rattle.account_formulas.proofs.owns_as_formula.Goals as goal

pub returns : goal.returns
returns c = as_formula
