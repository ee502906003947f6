use Rattle.worked_trees.proofs.Threads.{threads_become}
use Rattle.worked_trees.proofs.threads_become.Goals as goal

pub returns : goal.returns
returns c = threads_become
