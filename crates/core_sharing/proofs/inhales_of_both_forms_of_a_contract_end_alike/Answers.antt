use Rattle.core_sharing.proofs.Inhaled.{program_ends}
use Rattle.core_sharing.proofs.inhales_of_both_forms_of_a_contract_end_alike.Goals as goal

pub returns : goal.returns
returns c = program_ends
