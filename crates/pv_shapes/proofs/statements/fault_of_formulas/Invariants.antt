use Rattle.std.proofs.Common.{◌≡◌, drop}
use Rattle.std.specs.List.{flat_map}
use Rattle.pv_ast.specs.Rules.Shapes as shapes
use Rattle.pv_shapes.proofs.statements.fault_of_formulas.Given as goal

abbrev pub invariant-loop-e : goal.invariant-loop-e
invariant-loop-e l =
    shapes.earlier l.first (shapes.first_of (flat_map (shapes.faults_of_formula) (drop l.e-index l.es)))
    ≡ shapes.first_of (flat_map (shapes.faults_of_formula) l.es)
