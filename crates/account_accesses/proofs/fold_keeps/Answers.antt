use Rattle.account_accesses.proofs.Folding as label
use Rattle.account_accesses.proofs.fold_keeps.Goals as goal

pub returns : goal.returns
returns c = label.fold_keeps
