use Rattle.account.proofs.Framing.{predicates_taken_in}
use Rattle.account.proofs.predicates_are_taken_in.Goals as goal

pub returns : goal.returns
returns c = predicates_taken_in
