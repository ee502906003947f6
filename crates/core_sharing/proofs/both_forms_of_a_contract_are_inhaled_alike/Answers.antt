use Rattle.core_sharing.proofs.Inhaled.{program_inhales}
use Rattle.core_sharing.proofs.both_forms_of_a_contract_are_inhaled_alike.Goals as goal

pub returns : goal.returns
returns c = program_inhales
