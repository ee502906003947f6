use Rattle.machine_laws.proofs.Typed.{act-typed}
use Rattle.machine_laws.proofs.steps_keep_heaps_well_typed.Goals as goal

pub returns : goal.returns
returns c = act-typed
