use Rattle.core_typing.proofs.Programs.{program_fits}
use Rattle.core_typing.proofs.well_formed_programs_are_typed.Goals as goal

pub returns : goal.returns
returns c = program_fits
