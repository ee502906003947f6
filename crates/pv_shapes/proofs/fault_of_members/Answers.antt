use Rattle.std.proofs.Common.{◌+◌, drop, arith}
use Rattle.std.proofs.lemmas.Grind.{common_steps}
use Rattle.pv_ast.specs.Rules.Shapes as shapes
use Rattle.pv_shapes.proofs.Order.{first_more}
use Rattle.pv_shapes.proofs.fault_of_members.Goals as goal

pub loop-member-preserved : goal.loop-member-preserved
loop-member-preserved c =
    grind (
      arith,
      common_steps,
      first_more (shapes.faults_of_member) c.loop-member.first c.member-item.result
          (drop (c.loop-member.member-index + 1) c.args.members.now),
    )
