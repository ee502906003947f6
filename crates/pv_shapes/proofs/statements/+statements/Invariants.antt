use Rattle.std.proofs.Common.{◌≡◌, drop}
use Rattle.pv_ast.specs.Rules.Shapes as shapes
use Rattle.pv_shapes.specs.Seen.{environment_as}
use Rattle.pv_shapes.proofs.statements.+statements.Given as goal

abbrev pub invariant-fault_of_block-loop-statement : goal.invariant-fault_of_block-loop-statement
invariant-fault_of_block-loop-statement l =
    shapes.earlier l.first (shapes.first_of (shapes.faults_of_block (drop l.statement-index l.block) (environment_as l.inside)))
    ≡ shapes.first_of (shapes.faults_of_block l.block (environment_as l.inside))
