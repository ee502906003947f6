use Rattle.machine_laws.proofs.Labels.{next-fits}
use Rattle.machine_laws.proofs.labels_of_typed_worlds_keep_kinds.Goals as goal

pub returns : goal.returns
returns c = next-fits
