use Rattle.std.proofs.Common.{refl}
use Rattle.worked_runs.proofs.Runs.{race}
use Rattle.worked_runs.proofs.writers_race.Goals as goal

pub returns : goal.returns
returns c = (refl, race)
