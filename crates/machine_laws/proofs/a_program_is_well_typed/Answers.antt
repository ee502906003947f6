use Rattle.machine_laws.proofs.Counting.{program-fits}
use Rattle.machine_laws.proofs.a_program_is_well_typed.Goals as goal

pub returns : goal.returns
returns c = program-fits
