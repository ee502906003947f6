use Rattle.core_names.proofs.PresentStmts.{old_is_kept}
use Rattle.core_names.proofs.old_states_are_kept.Goals as goal

pub returns : goal.returns
returns c = old_is_kept
