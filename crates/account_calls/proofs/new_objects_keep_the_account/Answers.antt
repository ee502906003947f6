use Rattle.account_calls.proofs.Laws.{new_objects_keep}
use Rattle.account_calls.proofs.new_objects_keep_the_account.Goals as goal

pub returns : goal.returns
returns c = new_objects_keep
