use Rattle.worked_safety.proofs.Verified.{counter_verified}
use Rattle.worked_safety.proofs.the_counter_is_verified.Goals as goal

pub returns : goal.returns
returns c = counter_verified
