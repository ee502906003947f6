use Rattle.account_accesses.proofs.Asserting as label
use Rattle.account_accesses.proofs.assert_keeps.Goals as goal

pub returns : goal.returns
returns c = label.assert_keeps
