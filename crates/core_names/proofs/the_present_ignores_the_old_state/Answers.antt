use Rattle.core_names.proofs.Ignoring.{present_alone}
use Rattle.core_names.proofs.the_present_ignores_the_old_state.Goals as goal

pub returns : goal.returns
returns c = present_alone
