use Rattle.soundness.proofs.Standing.{received_once}
use Rattle.soundness.proofs.labels_are_received_once.Goals as goal

pub returns : goal.returns
returns c = received_once
