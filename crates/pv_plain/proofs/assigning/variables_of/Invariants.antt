use Rattle.std.proofs.Common.{◌≡◌, ◌++◌, drop}
use Rattle.pv_picks.specs.Plain.Trees.{parameters_of}
use Rattle.pv_picks.specs.Elaborating.Statements.{variables_among}
use Rattle.pv_types.specs.Sets.{has_name}
use Rattle.pv_plain.specs.Sights.{in_scope}
use Rattle.pv_plain.proofs.Naming.{variables_left}
use Rattle.pv_plain.proofs.assigning.variables_of.Given as goal

abbrev pub invariant-loop-name : goal.invariant-loop-name
invariant-loop-name l =
    parameters_of l.all ++ variables_left (in_scope l.sight) (has_name l.seen) (drop l.name-index l.names)
    ≡ variables_among (in_scope l.sight) l.names
