use Rattle.core_sharing.proofs.Alike.{program_exhales}
use Rattle.core_sharing.proofs.both_forms_of_a_contract_are_exhaled_alike.Goals as goal

pub returns : goal.returns
returns c = program_exhales
