use Rattle.machine_laws.proofs.Typed.{list_typed}
use Rattle.machine_laws.proofs.lists_are_typed_as_their_heaps.Goals as goal

pub returns : goal.returns
returns c = list_typed
