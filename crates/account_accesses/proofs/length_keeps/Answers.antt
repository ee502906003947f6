use Rattle.account_accesses.proofs.Length as label
use Rattle.account_accesses.proofs.length_keeps.Goals as goal

pub returns : goal.returns
returns c = label.length_keeps
