use Rattle.std.proofs.Common.{sym, ◌∙◌, ap, arith}
use Rattle.std.proofs.lemmas.Grind.{common_steps}
use Rattle.pv_ast.specs.declared.Each.{out-Each}
use Rattle.pv_ast.specs.Rules.Expressions.{checked_expression}
use Rattle.pv_ast.specs.Rules.Programs.{environment_in}
use Rattle.pv_types.specs.Bounds.{visible_under}
use Rattle.pv_types.proofs.Arguments.{meet_next, local_next}
use Rattle.pv_types.proofs.Bounding.{under}
use Rattle.pv_types.proofs.Instances.{instance_kind}
use Rattle.pv_types.proofs.scoped.+seen.Goals as goal

pub arguments-loop-arg-preserved : goal.arguments-loop-arg-preserved
arguments-loop-arg-preserved t c =
    let m =
    meet_next c.args.args.now c.loop-arg.arg-index c.arg-item.result c.loop-arg.left.now c.next_type-needed.result.1.now
    c.next_type-needed.result.0 (environment_in c.args.program.now c.args.scope.now)
    (visible_under c.args.scope.now c.args.bounds) c.loop-arg.meet c.loop-arg-test.true c.arg-item.is
    c.next_type-needed.ensures in
    let o =
    local_next c.args.args.now c.loop-arg.arg-index c.arg-item.result (environment_in c.args.program.now c.args.scope.now)
    (visible_under c.args.scope.now c.args.bounds) c.loop-arg.local c.loop-arg-test.true c.arg-item.is in
    record {
      meet = rw c.has_type-meet.ensures (rw c.seen-each.ensures (sym m ∙ c.loop-arg.invariant.meet));
      local = rw c.seen-each.ensures (sym o ∙ c.loop-arg.invariant.local);
    }

pub seen_in-returns-in-Instance : goal.seen_in-returns-in-Instance
seen_in-returns-in-Instance t c =
    rw (instance_kind c.args.kind.now c.in-Instance.target c.in-Instance.word c.in-Instance.args c.in-Instance.is)
    (grind (arith, common_steps))

pub quantified_body-returns : goal.quantified_body-returns
quantified_body-returns t c =
    rw c.seen.ensures (rw c.get.ensures (ap (λ v.
    (checked_expression (out-Each c.args.each.now).body).seen (environment_in c.args.program.now c.args.scope.now) v)
    (under c.args.scope.now (out-Each c.args.each.now).name.name c.args.bounds)))
