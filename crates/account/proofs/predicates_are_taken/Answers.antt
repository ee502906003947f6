use Rattle.account.proofs.Framing.{predicates_fit}
use Rattle.account.proofs.predicates_are_taken.Goals as goal

pub returns : goal.returns
returns c = predicates_fit
