use Rattle.account.proofs.Supplying.{heaps_fit}
use Rattle.account.proofs.reached_heaps_fit.Goals as goal

pub returns : goal.returns
returns c = heaps_fit
