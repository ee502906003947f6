use Rattle.account_blocks.proofs.Laws.{ends_keep}
use Rattle.account_blocks.proofs.ends_of_members_keep_the_account.Goals as goal

pub returns : goal.returns
returns c = ends_keep
