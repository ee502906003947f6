use Rattle.account_blocks.proofs.Laws.{leaves_keep}
use Rattle.account_blocks.proofs.leaves_keep_the_account.Goals as goal

pub returns : goal.returns
returns c = leaves_keep
