use Rattle.std.proofs.Common.{◌+◌, drop, arith}
use Rattle.std.proofs.lemmas.Grind.{common_steps}
use Rattle.pv_ast.specs.Rules.Shapes as shapes
use Rattle.pv_shapes.proofs.Order.{first_more}
use Rattle.pv_shapes.proofs.statements.fault_of_formulas.Goals as goal

pub loop-e-preserved : goal.loop-e-preserved
loop-e-preserved c =
    grind (
      arith,
      common_steps,
      first_more (shapes.faults_of_formula) c.loop-e.first c.e-item.result
          (drop (c.loop-e.e-index + 1) c.args.es.now),
    )
