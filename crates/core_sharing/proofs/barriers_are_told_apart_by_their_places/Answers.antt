use Rattle.core_sharing.proofs.Ways.{has_places}
use Rattle.core_sharing.proofs.barriers_are_told_apart_by_their_places.Goals as goal

pub returns : goal.returns
returns c = has_places
