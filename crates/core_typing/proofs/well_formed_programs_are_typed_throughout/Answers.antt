use Rattle.pv_picks.specs.Elaborating.Programs.{core_of}
use Rattle.core_typing.proofs.Contracts.{program_formulas}
use Rattle.core_typing.proofs.Distinct.{names_distinct}
use Rattle.core_typing.proofs.Programs.{program_fits}
use Rattle.core_typing.proofs.Throughout.{typed_throughout}
use Rattle.core_typing.proofs.well_formed_programs_are_typed_throughout.Goals as goal

pub returns : goal.returns
returns c = λ p well_formed.
    typed_throughout (core_of p) (program_fits p well_formed) (program_formulas p well_formed)
    (names_distinct p well_formed)
