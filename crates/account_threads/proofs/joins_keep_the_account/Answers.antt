use Rattle.account_threads.proofs.Laws.{joins_keep}
use Rattle.account_threads.proofs.joins_keep_the_account.Goals as goal

pub returns : goal.returns
returns c = joins_keep
