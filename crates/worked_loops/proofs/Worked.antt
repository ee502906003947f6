-- Worked programs whose loops are quiet.
use Rattle.std.proofs.Common.{refl}
use Rattle.pv_picks.specs.Machine.Safety.{IsSafe}
use Rattle.worked_programs.specs.CoreThreads.{copying}
use Rattle.worked_runs.specs.Overwriting as overwriting
use Rattle.worked_runs.proofs.Overwriting.{disagrees}
use Rattle.machine_loops.specs.Calm.{HasQuietLoops}
use Rattle.machine_loops.proofs.Whole.{safe-agrees}

pub copying-quiet : HasQuietLoops copying
copying-quiet = ((refl, tt), tt)

pub overwriting-quiet : HasQuietLoops overwriting.program
overwriting-quiet = ((refl, tt), tt)

pub overwriting-unsafe : IsSafe overwriting.program → ⊥
overwriting-unsafe safe = disagrees (safe-agrees overwriting.program overwriting-quiet safe)
