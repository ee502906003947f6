use Rattle.account_calls.proofs.Starting.{first_accounted}
use Rattle.account_calls.proofs.starts_are_accounted_for.Goals as goal

pub returns : goal.returns
returns c = first_accounted
