use Rattle.account_blocks.proofs.Laws.{sends_keep}
use Rattle.account_blocks.proofs.sends_keep_the_account.Goals as goal

pub returns : goal.returns
returns c = sends_keep
