use Rattle.std.proofs.Common.{◌∙◌, ap}
use Rattle.pv_picks.specs.Plain.Trees.{items_of}
use Rattle.pv_plain.proofs.Gathering.{items_together}
use Rattle.pv_plain.proofs.formulas.together.Goals as goal

pub returns : goal.returns
returns c = ap items_of c.in_ok-append.ensures ∙ items_together c.args.first c.args.second
