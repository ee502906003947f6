use Rattle.worked_trees.proofs.Arrays.{arrays_become}
use Rattle.worked_trees.proofs.arrays_become.Goals as goal

pub returns : goal.returns
returns c = arrays_become
