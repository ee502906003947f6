use Rattle.pv_picks.specs.Elaborating.Programs.{core_of}
use Rattle.machine_laws.proofs.Reached.{reached-typed}
use Rattle.core_typing.proofs.Programs.{program_fits}
use Rattle.core_typing.proofs.well_formed_programs_keep_heaps_typed.Goals as goal

pub returns : goal.returns
returns c = λ p well_formed w reached. reached-typed (core_of p) (program_fits p well_formed) w reached
