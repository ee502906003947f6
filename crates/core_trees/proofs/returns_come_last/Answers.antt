use Rattle.core_trees.proofs.Returning.{program_returns}
use Rattle.core_trees.proofs.returns_come_last.Goals as goal

pub returns : goal.returns
returns c = program_returns
