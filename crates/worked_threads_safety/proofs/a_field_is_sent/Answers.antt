use Rattle.worked_threads_safety.proofs.Verified.{posted_verified, posted_passes}
use Rattle.worked_threads_safety.proofs.Runs.{posted_runs}
use Rattle.worked_threads_safety.proofs.a_field_is_sent.Goals as goal

pub returns : goal.returns
returns c = record { verified = posted_verified; passes = posted_passes; runs = posted_runs }
