use Rattle.machine_laws.proofs.TypedSteps.{act-fits}
use Rattle.machine_laws.proofs.steps_keep_worlds_typed.Goals as goal

pub returns : goal.returns
returns c = act-fits
