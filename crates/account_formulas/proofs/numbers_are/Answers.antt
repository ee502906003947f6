use Rattle.account_formulas.proofs.Laws.{numbers_are}
use Rattle.account_formulas.proofs.numbers_are.Goals as goal

pub returns : goal.returns
returns c = numbers_are
