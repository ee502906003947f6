use Rattle.account_accesses.proofs.Heads as label
use Rattle.account_accesses.proofs.loop_entry_keeps.Goals as goal

pub returns : goal.returns
returns c = label.entry_keeps
