use Rattle.account_accesses.proofs.Reading as reading
use Rattle.account_accesses.proofs.read_keeps.Goals as goal

pub returns : goal.returns
returns c = reading.read_keeps
