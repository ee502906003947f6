use Rattle.account_formulas.proofs.Laws.{never_fails_truly}
use Rattle.account_formulas.proofs.never_fails_truly.Goals as goal

pub returns : goal.returns
returns c = never_fails_truly
