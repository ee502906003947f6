use Rattle.account_formulas.proofs.Laws.{deals}
use Rattle.account_formulas.proofs.items_dealt.Goals as goal

pub returns : goal.returns
returns c = deals
