use Rattle.std.proofs.Common.{◌+◌, drop, arith}
use Rattle.std.proofs.lemmas.Grind.{common_steps}
use Rattle.pv_ast.specs.Rules.Shapes as shapes
use Rattle.pv_shapes.proofs.Order.{first_more}
use Rattle.pv_shapes.proofs.statements.fault_of_contract.Goals as goal

pub loop-clause-preserved : goal.loop-clause-preserved
loop-clause-preserved c =
    grind (
      arith,
      common_steps,
      first_more (λ clause. shapes.faults_of_formula clause.formula) c.loop-clause.first
          c.clause-item.result (drop (c.loop-clause.clause-index + 1) c.args.contract.now.clauses),
    )
