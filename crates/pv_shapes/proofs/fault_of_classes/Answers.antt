use Rattle.std.proofs.Common.{◌+◌, drop, arith}
use Rattle.std.proofs.lemmas.Grind.{common_steps}
use Rattle.pv_ast.specs.Rules.Shapes as shapes
use Rattle.pv_shapes.proofs.Order.{first_more}
use Rattle.pv_shapes.proofs.fault_of_classes.Goals as goal

pub loop-class-preserved : goal.loop-class-preserved
loop-class-preserved c =
    grind (
      arith,
      common_steps,
      first_more (shapes.faults_of_class) c.loop-class.first c.class-item.result
          (drop (c.loop-class.class-index + 1) c.args.classes.now),
    )
