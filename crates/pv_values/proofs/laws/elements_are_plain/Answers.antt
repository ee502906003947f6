use Rattle.pv_values.proofs.Standing.{elements_plain}
use Rattle.pv_values.proofs.laws.elements_are_plain.Goals as goal

pub returns : goal.returns
returns c = elements_plain
