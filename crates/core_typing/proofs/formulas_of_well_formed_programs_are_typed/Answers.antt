use Rattle.core_typing.proofs.Contracts.{program_formulas}
use Rattle.core_typing.proofs.formulas_of_well_formed_programs_are_typed.Goals as goal

pub returns : goal.returns
returns c = program_formulas
