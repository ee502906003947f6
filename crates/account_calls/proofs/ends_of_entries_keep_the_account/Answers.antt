use Rattle.account_calls.proofs.Laws.{entry_ends_keep}
use Rattle.account_calls.proofs.ends_of_entries_keep_the_account.Goals as goal

pub returns : goal.returns
returns c = entry_ends_keep
