use Rattle.worked_threads_safety.proofs.Verified.{list_verified, list_passes}
use Rattle.worked_threads_safety.proofs.Runs.{list_runs}
use Rattle.worked_threads_safety.proofs.a_list_is_gone_through.Goals as goal

pub returns : goal.returns
returns c = record { verified = list_verified; passes = list_passes; runs = list_runs }
