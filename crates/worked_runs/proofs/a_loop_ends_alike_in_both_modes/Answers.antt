use Rattle.std.proofs.Common.{refl}
use Rattle.worked_runs.proofs.Runs.{free_run, ordered_run}
use Rattle.worked_runs.proofs.a_loop_ends_alike_in_both_modes.Goals as goal

pub returns : goal.returns
returns c = (refl, free_run, ordered_run, refl, refl)
