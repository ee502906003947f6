use Rattle.core_sharing.proofs.Inhaled.{inhales_alike}
use Rattle.core_sharing.proofs.what_is_made_alike_is_inhaled_alike.Goals as goal

pub returns : goal.returns
returns c = inhales_alike
