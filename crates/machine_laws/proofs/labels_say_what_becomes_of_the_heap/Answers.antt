use Rattle.machine_laws.proofs.HeapSteps.{act-does}
use Rattle.machine_laws.proofs.labels_say_what_becomes_of_the_heap.Goals as goal

pub returns : goal.returns
returns c = act-does
