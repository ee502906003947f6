use Rattle.core_trees.proofs.Matching.{program_matched}
use Rattle.core_trees.proofs.receives_what_is_sent.Goals as goal

pub returns : goal.returns
returns c = program_matched
