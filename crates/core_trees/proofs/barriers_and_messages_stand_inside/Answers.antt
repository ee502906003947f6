use Rattle.core_trees.proofs.Places.{program_placed}
use Rattle.core_trees.proofs.barriers_and_messages_stand_inside.Goals as goal

pub returns : goal.returns
returns c = program_placed
