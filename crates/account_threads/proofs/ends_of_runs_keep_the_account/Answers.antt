use Rattle.account_threads.proofs.Laws.{run_ends_keep}
use Rattle.account_threads.proofs.ends_of_runs_keep_the_account.Goals as goal

pub returns : goal.returns
returns c = run_ends_keep
