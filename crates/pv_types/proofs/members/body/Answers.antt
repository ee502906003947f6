use Rattle.std.proofs.Common.{◌≡◌, ◌+◌, ◌-◌, length, drop, sym, ◌∙◌, ap, arith}
use Rattle.pv_ast.specs.Rules.Faults.{least}
use Rattle.pv_ast.specs.Rules.Statements.{checked_statement, parts_of_block, faults_of_body}
use Rattle.pv_types.specs.Environments.{environment_of}
use Rattle.pv_types.proofs.Endings.{body_next, nothing_left}
use Rattle.pv_types.proofs.members.body.Goals as goal

pub loop-each-preserved : goal.loop-each-preserved
loop-each-preserved c =
    let e = c.in_ok-statement.ensures in
    let left : (c.loop-each.left - 1) + (c.loop-each.each-index + 1) ≡ length c.args.statements.now =
    omega (arith, c.loop-each.invariant.left, c.loop-each-test.true) in
    let last = nothing_left c.args.statements.now c.loop-each.each-index (c.loop-each.left - 1) left in
    let next =
    body_next c.args.statements.now c.loop-each.each-index c.each-item.result
    (environment_of c.args.environment.now) c.loop-each.walk.visible c.args.stand c.loop-each.walk.first c.loop-each-test.true
    c.each-item.is in
    record {
      found =
          rw e.found (rw e.behind (ap (λ b. least (least c.loop-each.walk.first
          ((checked_statement c.each-item.result).faults (environment_of c.args.environment.now) c.loop-each.walk.visible
          (record c.args.stand { last = b }))) (faults_of_body
          (parts_of_block (drop (c.loop-each.each-index + 1) c.args.statements.now)) (environment_of c.args.environment.now)
          ((checked_statement c.each-item.result).behind c.loop-each.walk.visible) c.args.stand)) (sym last)
          ∙ (sym next ∙ c.loop-each.invariant.found)));
      left = left;
    }
