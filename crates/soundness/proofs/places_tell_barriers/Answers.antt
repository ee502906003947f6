use Rattle.soundness.proofs.Leaving.{places_tell}
use Rattle.soundness.proofs.places_tell_barriers.Goals as goal

pub returns : goal.returns
returns c = places_tell
