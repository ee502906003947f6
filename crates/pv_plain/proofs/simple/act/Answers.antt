use Rattle.std.proofs.Common.{arith}
use Rattle.std.proofs.lemmas.Grind.{common_steps}
use Rattle.core_trees.proofs.Layers.{checked_in_elaborated}
use Rattle.pv_plain.proofs.simple.act.Goals as goal

pub returns : goal.returns
returns c = rw (checked_in_elaborated c.args.e.now) (grind (arith, common_steps))
