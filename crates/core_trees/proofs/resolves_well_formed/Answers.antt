use Rattle.core_trees.proofs.Whole.{program_resolved}
use Rattle.core_trees.proofs.resolves_well_formed.Goals as goal

pub returns : goal.returns
returns c = program_resolved
