use Rattle.account_opening.proofs.Keeping.{openings_keep}
use Rattle.account_opening.proofs.openings_keep_the_account.Goals as goal

pub returns : goal.returns
returns c = openings_keep
