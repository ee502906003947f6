use Rattle.std.proofs.Common.{◌≡◌, drop}
use Rattle.std.specs.List.{flat_map}
use Rattle.pv_ast.specs.Rules.Shapes as shapes
use Rattle.pv_shapes.proofs.fault_of_classes.Given as goal

abbrev pub invariant-loop-class : goal.invariant-loop-class
invariant-loop-class l =
    shapes.earlier l.first (shapes.first_of (flat_map (shapes.faults_of_class) (drop l.class-index l.classes)))
    ≡ shapes.first_of (flat_map (shapes.faults_of_class) l.classes)
