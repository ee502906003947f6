use Rattle.account_formulas.proofs.Laws.{takes_in}
use Rattle.account_formulas.proofs.inhale_gains.Goals as goal

pub returns : goal.returns
returns c = takes_in
