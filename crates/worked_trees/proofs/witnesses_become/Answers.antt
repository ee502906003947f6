use Rattle.worked_trees.proofs.Witnesses.{witnesses_become}
use Rattle.worked_trees.proofs.witnesses_become.Goals as goal

pub returns : goal.returns
returns c = witnesses_become
