use Rattle.account_threads.proofs.Laws.{locks_keep}
use Rattle.account_threads.proofs.locks_keep_the_account.Goals as goal

pub returns : goal.returns
returns c = locks_keep
