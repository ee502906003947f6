use Rattle.worked_threads_safety.proofs.Verified.{relay_verified, relay_passes}
use Rattle.worked_threads_safety.proofs.Runs.{relay_runs}
use Rattle.worked_threads_safety.proofs.a_field_is_relayed.Goals as goal

pub returns : goal.returns
returns c = record { verified = relay_verified; passes = relay_passes; runs = relay_runs }
