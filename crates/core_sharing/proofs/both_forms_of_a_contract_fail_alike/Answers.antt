use Rattle.core_sharing.proofs.Alike.{program_fails}
use Rattle.core_sharing.proofs.both_forms_of_a_contract_fail_alike.Goals as goal

pub returns : goal.returns
returns c = program_fails
