use Rattle.core_names.proofs.Finding.{parts_are_units}
use Rattle.core_names.proofs.parts_are_units.Goals as goal

pub returns : goal.returns
returns c = parts_are_units
