use Rattle.account_formulas.proofs.Laws.{gives_up}
use Rattle.account_formulas.proofs.exhale_gives.Goals as goal

pub returns : goal.returns
returns c = gives_up
