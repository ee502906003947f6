use Rattle.account_calls.proofs.Laws.{returns_keep}
use Rattle.account_calls.proofs.returns_keep_the_account.Goals as goal

pub returns : goal.returns
returns c = returns_keep
