use Rattle.worked_trees.proofs.Objects.{objects_become}
use Rattle.worked_trees.proofs.objects_become.Goals as goal

pub returns : goal.returns
returns c = objects_become
