use Rattle.account_threads.proofs.Laws.{unlocks_keep}
use Rattle.account_threads.proofs.unlocks_keep_the_account.Goals as goal

pub returns : goal.returns
returns c = unlocks_keep
