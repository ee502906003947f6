use Rattle.core_sharing.proofs.Inhaled.{inhales_again}
use Rattle.core_sharing.proofs.a_formula_is_inhaled_alike_from_states_that_are_alike.Goals as goal

pub returns : goal.returns
returns c = inhales_again
