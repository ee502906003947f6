use Rattle.soundness.proofs.StayAlike.{stay_alike}
use Rattle.soundness.proofs.both_forms_stay_alike.Goals as goal

pub returns : goal.returns
returns c = stay_alike
