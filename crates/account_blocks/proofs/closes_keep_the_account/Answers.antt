use Rattle.account_blocks.proofs.Laws.{closes_keep}
use Rattle.account_blocks.proofs.closes_keep_the_account.Goals as goal

pub returns : goal.returns
returns c = closes_keep
