use Rattle.worked_runs.proofs.Refused.{two_start, shared_refused, unmet_refused}
use Rattle.worked_runs.proofs.some_starts_are_refused.Goals as goal

pub returns-clause-two : goal.returns-clause-two
returns-clause-two c = two_start

pub returns-clause-shared : goal.returns-clause-shared
returns-clause-shared c = shared_refused

pub returns-clause-unmet : goal.returns-clause-unmet
returns-clause-unmet c = unmet_refused
