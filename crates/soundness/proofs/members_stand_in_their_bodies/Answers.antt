use Rattle.soundness.proofs.Standing.{stand_in_their_bodies}
use Rattle.soundness.proofs.members_stand_in_their_bodies.Goals as goal

pub returns : goal.returns
returns c = stand_in_their_bodies
