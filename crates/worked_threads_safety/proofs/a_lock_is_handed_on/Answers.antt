use Rattle.worked_threads_safety.proofs.Verified.{handed_verified, handed_passes}
use Rattle.worked_threads_safety.proofs.Runs.{handed_runs}
use Rattle.worked_threads_safety.proofs.a_lock_is_handed_on.Goals as goal

pub returns : goal.returns
returns c = record { verified = handed_verified; passes = handed_passes; runs = handed_runs }
