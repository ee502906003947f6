use Rattle.account_threads.proofs.Laws.{commits_keep}
use Rattle.account_threads.proofs.commits_keep_the_account.Goals as goal

pub returns : goal.returns
returns c = commits_keep
