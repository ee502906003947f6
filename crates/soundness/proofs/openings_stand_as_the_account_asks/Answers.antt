use Rattle.soundness.proofs.OpeningsStand.{openings_stand}
use Rattle.soundness.proofs.openings_stand_as_the_account_asks.Goals as goal

pub returns : goal.returns
returns c = openings_stand
