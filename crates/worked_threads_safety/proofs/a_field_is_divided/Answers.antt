use Rattle.worked_threads_safety.proofs.Verified.{divided_verified, divided_passes}
use Rattle.worked_threads_safety.proofs.Runs.{divided_runs}
use Rattle.worked_threads_safety.proofs.a_field_is_divided.Goals as goal

pub returns : goal.returns
returns c = record { verified = divided_verified; passes = divided_passes; runs = divided_runs }
