use Rattle.machine_laws.proofs.Fresh.{reached_fresh}
use Rattle.machine_laws.proofs.numbers_beyond_the_count_are_fresh.Goals as goal

pub returns : goal.returns
returns c = reached_fresh
