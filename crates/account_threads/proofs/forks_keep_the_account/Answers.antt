use Rattle.account_threads.proofs.Laws.{forks_keep}
use Rattle.account_threads.proofs.forks_keep_the_account.Goals as goal

pub returns : goal.returns
returns c = forks_keep
