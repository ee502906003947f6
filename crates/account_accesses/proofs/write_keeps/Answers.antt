use Rattle.account_accesses.proofs.Writing as writing
use Rattle.account_accesses.proofs.write_keeps.Goals as goal

pub returns : goal.returns
returns c = writing.write_keeps
