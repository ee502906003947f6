use Rattle.std.proofs.Common.{◌≡◌, drop, map}
use Rattle.std.specs.List.{list_any}
use Rattle.pv_ast.specs.Rules.Items.{uses_variable, shape_of}
use Rattle.pv_shapes.proofs.uses.+uses.Given as goal

abbrev pub invariant-uses_in_any-loop-e : goal.invariant-uses_in_any-loop-e
invariant-uses_in_any-loop-e l =
    list_any (uses_variable l.name.0) (map shape_of (drop l.e-index l.es)) ≡ list_any (uses_variable l.name.0) (map shape_of l.es)
