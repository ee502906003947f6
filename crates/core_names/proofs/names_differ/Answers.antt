use Rattle.core_names.proofs.Naming.{names_differ}
use Rattle.core_names.proofs.names_differ.Goals as goal

pub returns : goal.returns
returns c = names_differ
