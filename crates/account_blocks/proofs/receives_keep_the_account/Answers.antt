use Rattle.account_blocks.proofs.Laws.{receives_keep}
use Rattle.account_blocks.proofs.receives_keep_the_account.Goals as goal

pub returns : goal.returns
returns c = receives_keep
