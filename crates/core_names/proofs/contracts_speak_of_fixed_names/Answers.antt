use Rattle.core_names.proofs.Fixed.{names_keep}
use Rattle.core_names.proofs.contracts_speak_of_fixed_names.Goals as goal

pub returns : goal.returns
returns c = names_keep
