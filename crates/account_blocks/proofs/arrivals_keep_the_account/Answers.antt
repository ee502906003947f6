use Rattle.account_blocks.proofs.Laws.{arrivals_keep}
use Rattle.account_blocks.proofs.arrivals_keep_the_account.Goals as goal

pub returns : goal.returns
returns c = arrivals_keep
