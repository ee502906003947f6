use Rattle.std.proofs.Common.{◌≡◌, drop}
use Rattle.std.specs.List.{flat_map}
use Rattle.pv_ast.specs.Rules.Shapes as shapes
use Rattle.pv_shapes.proofs.fault_of_members.Given as goal

abbrev pub invariant-loop-member : goal.invariant-loop-member
invariant-loop-member l =
    shapes.earlier l.first (shapes.first_of (flat_map (shapes.faults_of_member) (drop l.member-index l.members)))
    ≡ shapes.first_of (flat_map (shapes.faults_of_member) l.members)
