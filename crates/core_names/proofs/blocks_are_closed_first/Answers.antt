use Rattle.core_names.proofs.Closing.{reached_closes}
use Rattle.core_names.proofs.blocks_are_closed_first.Goals as goal

pub returns : goal.returns
returns c = reached_closes
