use Rattle.worked_threads_safety.proofs.Wrong.{disagrees, overwritten_refused}
use Rattle.worked_threads_safety.proofs.overwriting_members_are_not_verified.Goals as goal

pub returns : goal.returns
returns c = record { disagree = disagrees; refused = overwritten_refused }
