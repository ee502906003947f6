use Rattle.worked_safety.proofs.Verified.{chain_verified}
use Rattle.worked_safety.proofs.folded_predicates_are_verified.Goals as goal

pub returns : goal.returns
returns c = chain_verified
