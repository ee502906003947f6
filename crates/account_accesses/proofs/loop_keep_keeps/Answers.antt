use Rattle.account_accesses.proofs.Heads as label
use Rattle.account_accesses.proofs.loop_keep_keeps.Goals as goal

pub returns : goal.returns
returns c = label.keep_keeps
