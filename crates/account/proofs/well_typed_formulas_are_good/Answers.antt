use Rattle.account.proofs.Goodness.{good_formula}
use Rattle.account.proofs.well_typed_formulas_are_good.Goals as goal

pub returns : goal.returns
returns c = good_formula
