use Rattle.worked_safety.proofs.Verified.{writers_refused}
use Rattle.worked_safety.proofs.racing_writers_are_not_verified.Goals as goal

pub returns : goal.returns
returns c = writers_refused
