use Rattle.core_names.proofs.Keeping.{program_keeps}
use Rattle.core_names.proofs.fixed_names_are_never_assigned.Goals as goal

pub returns : goal.returns
returns c = program_keeps
