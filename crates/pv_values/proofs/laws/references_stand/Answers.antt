use Rattle.pv_values.proofs.Standing.{reference_within}
use Rattle.pv_values.proofs.laws.references_stand.Goals as goal

pub returns : goal.returns
returns c = reference_within
