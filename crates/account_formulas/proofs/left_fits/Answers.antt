use Rattle.account_formulas.proofs.Laws.{left_fits}
use Rattle.account_formulas.proofs.left_fits.Goals as goal

pub returns : goal.returns
returns c = left_fits
