use Rattle.account_accesses.proofs.Supporting as label
use Rattle.account_accesses.proofs.reached_worlds_support.Goals as goal

pub returns : goal.returns
returns c = label.supported
