use Rattle.core_sharing.proofs.Programs.{program_same}
use Rattle.core_sharing.proofs.both_forms_of_a_contract_correspond.Goals as goal

pub returns : goal.returns
returns c = program_same
