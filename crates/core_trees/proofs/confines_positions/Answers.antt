use Rattle.core_trees.proofs.ConfiningWhole.{program_confined}
use Rattle.core_trees.proofs.confines_positions.Goals as goal

pub returns : goal.returns
returns c = program_confined
