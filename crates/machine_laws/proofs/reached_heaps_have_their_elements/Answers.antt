use Rattle.machine_laws.proofs.Lengths.{reached-elements}
use Rattle.machine_laws.proofs.reached_heaps_have_their_elements.Goals as goal

pub returns : goal.returns
returns c = reached-elements
