use Rattle.worked_runs.proofs.Fitting.{writers_fit, fill_fits, copying_fits, twice_fits, grow_fits}
use Rattle.worked_runs.proofs.programs_fit.Goals as goal

pub returns : goal.returns
returns c = (writers_fit, fill_fits, copying_fits, twice_fits, grow_fits)
