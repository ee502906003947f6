use Rattle.account_calls.proofs.Laws.{new_arrays_keep}
use Rattle.account_calls.proofs.new_arrays_keep_the_account.Goals as goal

pub returns : goal.returns
returns c = new_arrays_keep
