use Rattle.std.proofs.Common.{sym, ◌∙◌, arith}
use Rattle.std.proofs.lemmas.Grind.{common_steps}
use Rattle.pv_types.specs.Sites.{around}
use Rattle.pv_types.proofs.Arguments.{meet_next, local_next, faults_next}
use Rattle.pv_types.proofs.Instances.{instance_kind}
use Rattle.pv_types.proofs.+part.Goals as goal

pub expressions::part_in-returns-in_ok-object-in-Instance-clause-seen :
    goal.expressions::part_in-returns-in_ok-object-in-Instance-clause-seen
expressions::part_in-returns-in_ok-object-in-Instance-clause-seen t c =
    rw (instance_kind c.args.kind.now c.in-Instance.target c.in-Instance.word c.in-Instance.args c.in-Instance.is)
    (grind (arith, common_steps))

pub expressions::part_in-returns-in_ok-object-in-Instance-clause-found :
    goal.expressions::part_in-returns-in_ok-object-in-Instance-clause-found
expressions::part_in-returns-in_ok-object-in-Instance-clause-found t c =
    rw (instance_kind c.args.kind.now c.in-Instance.target c.in-Instance.word c.in-Instance.args c.in-Instance.is)
    (grind (arith, common_steps))

pub uses::arguments-loop-arg-preserved : goal.uses::arguments-loop-arg-preserved
uses::arguments-loop-arg-preserved t c =
    let m =
    meet_next c.args.args.now c.loop-arg.arg-index c.arg-item.result c.loop-arg.left.now c.next_type-needed.result.1.now
    c.next_type-needed.result.0 (around c.args.site) c.loop-arg.visible c.loop-arg.meet c.loop-arg-test.true
    c.arg-item.is c.next_type-needed.ensures in
    let o =
    local_next c.args.args.now c.loop-arg.arg-index c.arg-item.result
    (around c.args.site) c.loop-arg.visible c.loop-arg.local c.loop-arg-test.true c.arg-item.is in
    let f =
    faults_next c.args.args.now c.loop-arg.arg-index c.arg-item.result c.loop-arg.left.now c.next_type-needed.result.1.now
    c.next_type-needed.result.0 (around c.args.site) c.loop-arg.visible c.args.site.context c.loop-arg.first
    c.loop-arg-test.true c.arg-item.is c.next_type-needed.ensures in
    record {
      meet = rw c.in_ok-seen.ensures.same (rw c.has_type-meet.ensures
          (rw c.in_ok-seen.ensures.seen (sym m ∙ c.loop-arg.invariant.meet)));
      local = rw c.in_ok-seen.ensures.same (rw c.in_ok-seen.ensures.seen (sym o ∙ c.loop-arg.invariant.local));
      found =
          rw c.in_ok-seen.ensures.same (rw c.in_ok-seen.ensures.found
          (rw c.need_of_result-need.ensures (sym f ∙ c.loop-arg.invariant.found)));
      same = c.in_ok-seen.ensures.same ∙ c.loop-arg.invariant.same;
    }
