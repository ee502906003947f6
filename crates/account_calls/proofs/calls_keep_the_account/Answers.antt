use Rattle.account_calls.proofs.Laws.{calls_keep}
use Rattle.account_calls.proofs.calls_keep_the_account.Goals as goal

pub returns : goal.returns
returns c = calls_keep
