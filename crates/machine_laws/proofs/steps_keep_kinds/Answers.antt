use Rattle.machine_laws.proofs.Typed.{act-keeps}
use Rattle.machine_laws.proofs.steps_keep_kinds.Goals as goal

pub returns : goal.returns
returns c = act-keeps
