use Rattle.core_names.proofs.Stacks.{stacks_fit}
use Rattle.core_names.proofs.stacks_fit.Goals as goal

pub returns : goal.returns
returns c = stacks_fit
