use Rattle.core_sharing.proofs.Exhaled.{exhales_alike}
use Rattle.core_sharing.proofs.what_is_made_alike_is_exhaled_alike.Goals as goal

pub returns : goal.returns
returns c = exhales_alike
