use Rattle.core_sharing.proofs.Inhaled.{starts_alike}
use Rattle.core_sharing.proofs.runs_start_alike.Goals as goal

pub returns : goal.returns
returns c = starts_alike
