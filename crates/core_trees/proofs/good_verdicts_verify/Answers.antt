use Rattle.core_trees.proofs.Verdicts.{verified}
use Rattle.core_trees.proofs.good_verdicts_verify.Goals as goal

pub returns : goal.returns
returns c = verified
