use Rattle.account_threads.proofs.Grounds.{runs_bare}
use Rattle.account_threads.proofs.runs_are_bare.Goals as goal

pub returns : goal.returns
returns c = runs_bare
