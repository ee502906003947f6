use Rattle.account_accesses.proofs.Racing as label
use Rattle.account_accesses.proofs.no_race.Goals as goal

pub returns : goal.returns
returns c = label.no_race
