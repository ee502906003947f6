use Rattle.std.proofs.Common.{refl, rules, arith, true, false, ◌<◌, ◌+◌, ◌*◌}
use Rattle.std.specs.Prelude.{max}
use Rattle.pv_values.specs.declared.value.Value.TheVariants as value
use Rattle.pv_picks.specs.declared.plain.Expression.TheViews as views
use Rattle.pv_picks.specs.declared.plain.Expression.TheFolds as folds
use mathlib.Core.Bool.{beq}
use Rattle.pv_picks.proofs.plain.Expression.TheLaws.{the_size}
use Rattle.pv_picks.specs.Plain.Core as core
use Rattle.pv_picks.specs.Plain.Trees.{expression_of, manner_of, operation_of, comparison_of}
use Rattle.pv_state.specs.declared.operands.Operand.TheVariants.{One}
use Rattle.pv_state.specs.Values.{value_at}
use Rattle.pv_state.specs.States.{reference_at, variables_at}
use Rattle.pv_state.specs.Runs.{operand_at}
use Rattle.pv_state.proofs.Taken.{when_err, err_then, ok_then}
use Rattle.pv_state.proofs.Sequences.{scene_grown}
use Rattle.pv_state.proofs.Evaluating as evaluating
use Rattle.pv_state.proofs.Expressing as expressing
use Rattle.pv_state.proofs.eval.+operand.Goals as goal

pub computed-operand-requires : goal.computed-operand-requires
computed-operand-requires g t c κs within =
    let K = g.K.Asker in (
      omega (arith),
      (
        search rules,
        (
          c.requires.scene,
          (
            c.requires.stores,
            evaluating.two_first K.path K.turns K.decisions
                K.stands K.ended K.sorts c.args.own.now c.args.reading c.args.scene.now (expression_of c.args.a.now)
                (expression_of
                c.args.b.now) (expressing.operating (manner_of c.args.manner) (operation_of c.args.operation) c.args.span)
                c.args.stores.now c.args.asker.now c.requires.ready,
          ),
        ),
      ),
    )

pub computed-returns-in_err-v-clause-halts : goal.computed-returns-in_err-v-clause-halts
computed-returns-in_err-v-clause-halts g t c =
    let K = g.K.Asker in
    when_err c.from_residual.result (evaluating.two_stops K.path K.turns K.decisions K.stands K.ended K.sorts c.args.own.now
    c.args.reading c.args.scene.now (expression_of c.args.a.now) (expression_of c.args.b.now) (expressing.operating
    (manner_of c.args.manner) (operation_of c.args.operation) c.args.span) c.args.stores.now c.args.asker.now
    c.operand.new.asker c.in_err-v.ensures.halts)

pub computed-operand-requires-2 : goal.computed-operand-requires-2
computed-operand-requires-2 g t c κs within =
    let K = g.K.Asker in (
      omega (arith),
      (
        search rules,
        (
          scene_grown _ _ _ c.in_ok-v.ensures.does.grows c.requires.scene,
          (
            c.in_ok-v.ensures.stores,
            evaluating.two_second K.path K.turns K.decisions K.stands K.ended K.sorts c.args.own.now
                c.args.reading c.args.scene.now (expression_of c.args.a.now) (expression_of c.args.b.now) (expressing.operating
                (manner_of c.args.manner) (operation_of c.args.operation) c.args.span) c.args.stores.now c.args.asker.now
                c.operand.new.asker c.operand.new.stores (λ e. operand_at e.values c.in_ok-v.v) c.in_ok-v.ensures.does
                c.requires.ready,
          ),
        ),
      ),
    )

pub computed-returns-in_err-w-clause-halts : goal.computed-returns-in_err-w-clause-halts
computed-returns-in_err-w-clause-halts g t c =
    let K = g.K.Asker in
    when_err c.from_residual-in_err-w.result (evaluating.two_stops_second K.path K.turns K.decisions K.stands K.ended K.sorts
    c.args.own.now c.args.reading c.args.scene.now (expression_of c.args.a.now) (expression_of c.args.b.now)
    (expressing.operating (manner_of c.args.manner) (operation_of c.args.operation) c.args.span) c.args.stores.now
    c.args.asker.now c.operand.new.asker c.operand.new.stores (λ e. operand_at e.values c.in_ok-v.v)
    c.in_ok-v.ensures.does c.operand-2.new.asker c.in_err-w.ensures.halts)

pub computed-compute-requires-clause-a : goal.computed-compute-requires-clause-a
computed-compute-requires-clause-a g t c =
    let K = g.K.Asker in
    expressing.operand_grown _ _ _ c.in_ok-w.ensures.does.grows c.in_ok-v.ensures.made

pub computed-compute-requires-clause-ready : goal.computed-compute-requires-clause-ready
computed-compute-requires-clause-ready g t c =
    let K = g.K.Asker in
    evaluating.two_sorted K.path K.turns K.decisions K.stands K.ended K.sorts c.args.own.now c.args.reading c.args.scene.now
    (expression_of c.args.a.now) (expression_of c.args.b.now) (expressing.operating (manner_of c.args.manner)
    (operation_of c.args.operation) c.args.span) c.args.stores.now c.args.asker.now c.operand.new.asker
    c.operand.new.stores (λ e. operand_at e.values c.in_ok-v.v) c.in_ok-v.ensures.does c.operand-2.new.asker
    c.operand-2.new.stores (λ e. operand_at e.values c.in_ok-w.w) c.in_ok-w.ensures.does c.requires.ready

pub computed-returns-clause-does : goal.computed-returns-clause-does
computed-returns-clause-does g t c =
    let K = g.K.Asker in
    ok_then c.compute.result _ _ (λ x h. evaluating.two_done K.path K.turns K.decisions K.stands K.ended K.sorts
    c.args.own.now c.args.reading c.args.scene.now (expression_of c.args.a.now) (expression_of c.args.b.now)
    (expressing.operating (manner_of c.args.manner) (operation_of c.args.operation) c.args.span) c.args.stores.now
    c.args.asker.now c.operand.new.asker c.operand.new.stores (λ e. operand_at e.values c.in_ok-v.v)
    c.in_ok-v.ensures.does c.operand-2.new.asker c.operand-2.new.stores (λ e. operand_at e.values c.in_ok-w.w)
    c.in_ok-w.ensures.does c.compute.new.asker _ h) c.compute.ensures.does

pub computed-returns-clause-halts : goal.computed-returns-clause-halts
computed-returns-clause-halts g t c =
    let K = g.K.Asker in
    err_then c.compute.result (λ h. evaluating.two_stops_third K.path K.turns K.decisions K.stands K.ended K.sorts
    c.args.own.now c.args.reading c.args.scene.now (expression_of c.args.a.now) (expression_of c.args.b.now)
    (expressing.operating (manner_of c.args.manner) (operation_of c.args.operation) c.args.span) c.args.stores.now
    c.args.asker.now c.operand.new.asker c.operand.new.stores (λ e. operand_at e.values c.in_ok-v.v)
    c.in_ok-v.ensures.does c.operand-2.new.asker c.operand-2.new.stores (λ e. operand_at e.values c.in_ok-w.w)
    c.in_ok-w.ensures.does c.compute.new.asker h) c.compute.ensures.halts

pub compared-operand-requires : goal.compared-operand-requires
compared-operand-requires g t c κs within =
    let K = g.K.Asker in (
      omega (arith),
      (
        search rules,
        (
          c.requires.scene,
          (
            c.requires.stores,
            evaluating.two_first K.path K.turns K.decisions
                K.stands K.ended K.sorts c.args.own.now c.args.reading c.args.scene.now (expression_of c.args.a.now)
                (expression_of
                c.args.b.now) (expressing.comparing (comparison_of c.args.order)) c.args.stores.now c.args.asker.now
                c.requires.ready,
          ),
        ),
      ),
    )

pub compared-returns-in_err-v-clause-halts : goal.compared-returns-in_err-v-clause-halts
compared-returns-in_err-v-clause-halts g t c =
    let K = g.K.Asker in
    when_err c.from_residual.result (evaluating.two_stops K.path K.turns K.decisions K.stands K.ended K.sorts c.args.own.now
    c.args.reading c.args.scene.now (expression_of c.args.a.now) (expression_of c.args.b.now) (expressing.comparing
    (comparison_of c.args.order)) c.args.stores.now c.args.asker.now c.operand.new.asker c.in_err-v.ensures.halts)

pub compared-operand-requires-2 : goal.compared-operand-requires-2
compared-operand-requires-2 g t c κs within =
    let K = g.K.Asker in (
      omega (arith),
      (
        search rules,
        (
          scene_grown _ _ _ c.in_ok-v.ensures.does.grows c.requires.scene,
          (
            c.in_ok-v.ensures.stores,
            evaluating.two_second K.path K.turns K.decisions K.stands K.ended K.sorts c.args.own.now
                c.args.reading c.args.scene.now (expression_of c.args.a.now) (expression_of c.args.b.now) (expressing.comparing
                (comparison_of c.args.order)) c.args.stores.now c.args.asker.now c.operand.new.asker c.operand.new.stores (λ e.
                operand_at e.values c.in_ok-v.v) c.in_ok-v.ensures.does c.requires.ready,
          ),
        ),
      ),
    )

pub compared-returns-in_err-w-clause-halts : goal.compared-returns-in_err-w-clause-halts
compared-returns-in_err-w-clause-halts g t c =
    let K = g.K.Asker in
    when_err c.from_residual-in_err-w.result (evaluating.two_stops_second K.path K.turns K.decisions K.stands K.ended K.sorts
    c.args.own.now c.args.reading c.args.scene.now (expression_of c.args.a.now) (expression_of c.args.b.now)
    (expressing.comparing (comparison_of c.args.order)) c.args.stores.now c.args.asker.now c.operand.new.asker
    c.operand.new.stores (λ e. operand_at e.values c.in_ok-v.v) c.in_ok-v.ensures.does c.operand-2.new.asker
    c.in_err-w.ensures.halts)

pub compared-compare_operands-requires-clause-first : goal.compared-compare_operands-requires-clause-first
compared-compare_operands-requires-clause-first g t c =
    let K = g.K.Asker in
    expressing.operand_grown _ _ _ c.in_ok-w.ensures.does.grows c.in_ok-v.ensures.made

pub compared-compare_operands-requires-clause-ready : goal.compared-compare_operands-requires-clause-ready
compared-compare_operands-requires-clause-ready g t c =
    let K = g.K.Asker in
    evaluating.two_sorted K.path K.turns K.decisions K.stands K.ended K.sorts c.args.own.now c.args.reading c.args.scene.now
    (expression_of c.args.a.now) (expression_of c.args.b.now) (expressing.comparing (comparison_of c.args.order))
    c.args.stores.now c.args.asker.now c.operand.new.asker c.operand.new.stores (λ e. operand_at e.values c.in_ok-v.v)
    c.in_ok-v.ensures.does c.operand-2.new.asker c.operand-2.new.stores (λ e. operand_at e.values c.in_ok-w.w)
    c.in_ok-w.ensures.does c.requires.ready

pub compared-returns-in_err-told-clause-halts : goal.compared-returns-in_err-told-clause-halts
compared-returns-in_err-told-clause-halts g t c =
    let K = g.K.Asker in
    let f = c.in_err-told.ensures in
    when_err c.from_residual-in_err-told.result (evaluating.two_stops_third K.path K.turns K.decisions K.stands K.ended
    K.sorts c.args.own.now c.args.reading c.args.scene.now (expression_of c.args.a.now) (expression_of c.args.b.now)
    (expressing.comparing (comparison_of c.args.order)) c.args.stores.now c.args.asker.now c.operand.new.asker
    c.operand.new.stores (λ e. operand_at e.values c.in_ok-v.v) c.in_ok-v.ensures.does c.operand-2.new.asker
    c.operand-2.new.stores (λ e. operand_at e.values c.in_ok-w.w) c.in_ok-w.ensures.does c.compare_operands.new.asker
    (expressing.compared_stops K.path K.turns K.decisions K.stands K.ended K.sorts c.args.own.now (comparison_of
    c.args.order) c.in_ok-v.v c.in_ok-w.w c.operand-2.new.stores c.operand-2.new.asker c.compare_operands.new.asker
    f.stops f.stopped f.same_sorts f.stopped_sorted))

pub compared-returns-clause-does : goal.compared-returns-clause-does
compared-returns-clause-does g t c =
    let K = g.K.Asker in
    let f = c.in_ok-told.ensures in
    evaluating.two_done K.path K.turns K.decisions K.stands K.ended K.sorts c.args.own.now c.args.reading c.args.scene.now
    (expression_of c.args.a.now) (expression_of c.args.b.now) (expressing.comparing (comparison_of c.args.order))
    c.args.stores.now c.args.asker.now c.operand.new.asker c.operand.new.stores (λ e. operand_at e.values c.in_ok-v.v)
    c.in_ok-v.ensures.does c.operand-2.new.asker c.operand-2.new.stores (λ e. operand_at e.values c.in_ok-w.w)
    c.in_ok-w.ensures.does c.compare_operands.new.asker _ (expressing.compared_done K.path K.turns K.decisions K.stands
    K.ended K.sorts c.args.own.now (comparison_of c.args.order) c.in_ok-v.v c.in_ok-w.w c.operand-2.new.stores
    c.operand-2.new.asker c.compare_operands.new.asker c.in_ok-told.told c.known.result (λ e. c.known.ensures.value
    e.values) f.asks f.tells f.sorted f.says)

pub equal-operand-requires : goal.equal-operand-requires
equal-operand-requires g t c κs within =
    let K = g.K.Asker in (
      omega (arith),
      (
        search rules,
        (
          c.requires.scene,
          (
            c.requires.stores,
            evaluating.two_first K.path K.turns K.decisions
                K.stands K.ended K.sorts c.args.own.now c.args.reading c.args.scene.now (expression_of c.args.a.now)
                (expression_of
                c.args.b.now) (expressing.matching c.args.same) c.args.stores.now c.args.asker.now c.requires.ready,
          ),
        ),
      ),
    )

pub equal-returns-in_err-v-clause-halts : goal.equal-returns-in_err-v-clause-halts
equal-returns-in_err-v-clause-halts g t c =
    let K = g.K.Asker in
    when_err c.from_residual.result (evaluating.two_stops K.path K.turns K.decisions K.stands K.ended K.sorts c.args.own.now
    c.args.reading c.args.scene.now (expression_of c.args.a.now) (expression_of c.args.b.now) (expressing.matching
    c.args.same) c.args.stores.now c.args.asker.now c.operand.new.asker c.in_err-v.ensures.halts)

pub equal-operand-requires-2 : goal.equal-operand-requires-2
equal-operand-requires-2 g t c κs within =
    let K = g.K.Asker in (
      omega (arith),
      (
        search rules,
        (
          scene_grown _ _ _ c.in_ok-v.ensures.does.grows c.requires.scene,
          (
            c.in_ok-v.ensures.stores,
            evaluating.two_second K.path K.turns K.decisions K.stands K.ended K.sorts c.args.own.now
                c.args.reading c.args.scene.now (expression_of c.args.a.now) (expression_of c.args.b.now) (expressing.matching
                c.args.same) c.args.stores.now c.args.asker.now c.operand.new.asker c.operand.new.stores (λ e. operand_at e.values
                c.in_ok-v.v) c.in_ok-v.ensures.does c.requires.ready,
          ),
        ),
      ),
    )

pub equal-returns-in_err-w-clause-halts : goal.equal-returns-in_err-w-clause-halts
equal-returns-in_err-w-clause-halts g t c =
    let K = g.K.Asker in
    when_err c.from_residual-in_err-w.result (evaluating.two_stops_second K.path K.turns K.decisions K.stands K.ended K.sorts
    c.args.own.now c.args.reading c.args.scene.now (expression_of c.args.a.now) (expression_of c.args.b.now)
    (expressing.matching c.args.same) c.args.stores.now c.args.asker.now c.operand.new.asker c.operand.new.stores (λ e.
    operand_at e.values c.in_ok-v.v) c.in_ok-v.ensures.does c.operand-2.new.asker c.in_err-w.ensures.halts)

pub equal-same_operands-requires-clause-first : goal.equal-same_operands-requires-clause-first
equal-same_operands-requires-clause-first g t c =
    let K = g.K.Asker in
    expressing.operand_grown _ _ _ c.in_ok-w.ensures.does.grows c.in_ok-v.ensures.made

pub equal-same_operands-requires-clause-ready : goal.equal-same_operands-requires-clause-ready
equal-same_operands-requires-clause-ready g t c =
    let K = g.K.Asker in
    evaluating.two_sorted K.path K.turns K.decisions K.stands K.ended K.sorts c.args.own.now c.args.reading c.args.scene.now
    (expression_of c.args.a.now) (expression_of c.args.b.now) (expressing.matching c.args.same) c.args.stores.now
    c.args.asker.now c.operand.new.asker c.operand.new.stores (λ e. operand_at e.values c.in_ok-v.v)
    c.in_ok-v.ensures.does c.operand-2.new.asker c.operand-2.new.stores (λ e. operand_at e.values c.in_ok-w.w)
    c.in_ok-w.ensures.does c.requires.ready

pub equal-returns-in_err-told-clause-halts : goal.equal-returns-in_err-told-clause-halts
equal-returns-in_err-told-clause-halts g t c =
    let K = g.K.Asker in
    let f = c.in_err-told.ensures in
    when_err c.from_residual-in_err-told.result (evaluating.two_stops_third K.path K.turns K.decisions K.stands K.ended
    K.sorts c.args.own.now c.args.reading c.args.scene.now (expression_of c.args.a.now) (expression_of c.args.b.now)
    (expressing.matching c.args.same) c.args.stores.now c.args.asker.now c.operand.new.asker c.operand.new.stores (λ e.
    operand_at e.values c.in_ok-v.v) c.in_ok-v.ensures.does c.operand-2.new.asker c.operand-2.new.stores (λ e. operand_at
    e.values c.in_ok-w.w) c.in_ok-w.ensures.does c.same_operands.new.asker (expressing.matched_stops K.path K.turns
    K.decisions K.stands K.ended K.sorts c.args.own.now c.args.same c.in_ok-v.v c.in_ok-w.w c.operand-2.new.stores
    c.operand-2.new.asker c.same_operands.new.asker f.stops f.stopped f.same_sorts f.stopped_sorted))

pub equal-returns-clause-does : goal.equal-returns-clause-does
equal-returns-clause-does g t c =
    let K = g.K.Asker in
    let f = c.in_ok-told.ensures in
    evaluating.two_done K.path K.turns K.decisions K.stands K.ended K.sorts c.args.own.now c.args.reading c.args.scene.now
    (expression_of c.args.a.now) (expression_of c.args.b.now) (expressing.matching c.args.same) c.args.stores.now
    c.args.asker.now c.operand.new.asker c.operand.new.stores (λ e. operand_at e.values c.in_ok-v.v)
    c.in_ok-v.ensures.does c.operand-2.new.asker c.operand-2.new.stores (λ e. operand_at e.values c.in_ok-w.w)
    c.in_ok-w.ensures.does c.same_operands.new.asker _ (expressing.matched_done K.path K.turns K.decisions K.stands
    K.ended K.sorts c.args.own.now c.args.same c.in_ok-v.v c.in_ok-w.w c.operand-2.new.stores c.operand-2.new.asker
    c.same_operands.new.asker (beq c.in_ok-told.told c.args.same) c.known.result (λ e. c.known.ensures.value e.values)
    f.asks f.tells f.sorted (λ e h up. expressing.told_equal c.in_ok-told.told c.args.same _ _ (f.says e h up)))

pub both-operand-requires : goal.both-operand-requires
both-operand-requires g t c κs within =
    let K = g.K.Asker in (
      omega (arith),
      (
        search rules,
        (
          c.requires.scene,
          (
            c.requires.stores,
            evaluating.branch_first K.path K.turns K.decisions
                K.stands K.ended K.sorts c.args.own.now c.args.reading c.args.scene.now (expression_of c.args.a.now)
                (expressing.value_of c.args.reading c.args.scene.now (expression_of c.args.b.now)) (expressing.truth_of false)
                c.args.stores.now c.args.asker.now c.requires.ready,
          ),
        ),
      ),
    )

pub both-returns-in_err-v-clause-halts : goal.both-returns-in_err-v-clause-halts
both-returns-in_err-v-clause-halts g t c =
    let K = g.K.Asker in
    when_err c.from_residual.result (evaluating.branch_stops K.path K.turns K.decisions K.stands K.ended K.sorts
    c.args.own.now c.args.reading c.args.scene.now (expression_of c.args.a.now) (expressing.value_of c.args.reading
    c.args.scene.now (expression_of c.args.b.now)) (expressing.truth_of false) c.args.stores.now c.args.asker.now
    c.operand.new.asker c.in_err-v.ensures.halts)

pub both-decide-requires-clause-ready : goal.both-decide-requires-clause-ready
both-decide-requires-clause-ready g t c =
    let K = g.K.Asker in
    evaluating.branch_sorted K.path K.turns K.decisions K.stands K.ended K.sorts c.args.own.now c.args.reading
    c.args.scene.now (expression_of c.args.a.now) (expressing.value_of c.args.reading c.args.scene.now (expression_of
    c.args.b.now)) (expressing.truth_of false) c.args.stores.now c.args.asker.now c.operand.new.asker
    c.operand.new.stores (λ e. operand_at e.values c.in_ok-v.v) c.in_ok-v.ensures.does c.requires.ready

pub both-returns-in_err-told-clause-halts : goal.both-returns-in_err-told-clause-halts
both-returns-in_err-told-clause-halts g t c =
    let K = g.K.Asker in
    let f = c.in_err-told.ensures in
    when_err c.from_residual-in_err-told.result (evaluating.branch_unasked K.path K.turns K.decisions K.stands K.ended
    K.sorts c.args.own.now c.args.reading c.args.scene.now (expression_of c.args.a.now) (expressing.value_of
    c.args.reading c.args.scene.now (expression_of c.args.b.now)) (expressing.truth_of false) c.args.stores.now
    c.args.asker.now c.operand.new.asker c.operand.new.stores (λ e. operand_at e.values c.in_ok-v.v)
    c.in_ok-v.ensures.does c.decide.new.asker f.stops f.stopped f.same_sorts f.stopped_sorted)

pub both-operand-requires-then-told : goal.both-operand-requires-then-told
both-operand-requires-then-told g t c κs within =
    let K = g.K.Asker in
    let f = c.in_ok-told.ensures in (
      omega (arith),
      (
        search rules,
        (
          scene_grown _ _ _ (expressing.front_same _ _ _ c.in_ok-v.ensures.does.grows f.same_sorts)
              c.requires.scene,
          (
            expressing.stores_same _ _ _ f.same_sorts c.in_ok-v.ensures.stores,
            evaluating.yes_may K.path
                K.turns K.decisions K.stands K.ended K.sorts c.args.own.now c.args.reading c.args.scene.now (expression_of
                c.args.a.now) (expressing.value_of c.args.reading c.args.scene.now (expression_of c.args.b.now))
                (expressing.truth_of
                false) c.args.stores.now c.args.asker.now c.operand.new.asker c.operand.new.stores (λ e. operand_at e.values
                c.in_ok-v.v) c.in_ok-v.ensures.does c.decide.new.asker c.in_ok-told.told f.asks f.tells f.sorted f.says
                c.if-told.true c.requires.ready,
          ),
        ),
      ),
    )

pub both-returns-then-told-clause-does : goal.both-returns-then-told-clause-does
both-returns-then-told-clause-does g t c =
    let K = g.K.Asker in
    let f = c.in_ok-told.ensures in
    ok_then c.operand-then-told.result _ _ (λ x h. evaluating.yes_done K.path K.turns K.decisions K.stands K.ended K.sorts
    c.args.own.now c.args.reading c.args.scene.now (expression_of c.args.a.now) (expressing.value_of c.args.reading
    c.args.scene.now (expression_of c.args.b.now)) (expressing.truth_of false) c.args.stores.now c.args.asker.now
    c.operand.new.asker c.operand.new.stores (λ e. operand_at e.values c.in_ok-v.v) c.in_ok-v.ensures.does
    c.decide.new.asker c.in_ok-told.told f.asks f.tells f.sorted f.says c.if-told.true c.operand-then-told.new.asker _ h)
    c.operand-then-told.ensures.does

pub both-returns-then-told-clause-halts : goal.both-returns-then-told-clause-halts
both-returns-then-told-clause-halts g t c =
    let K = g.K.Asker in
    let f = c.in_ok-told.ensures in
    err_then c.operand-then-told.result (λ h. evaluating.yes_stops K.path K.turns K.decisions K.stands K.ended K.sorts
    c.args.own.now c.args.reading c.args.scene.now (expression_of c.args.a.now) (expressing.value_of c.args.reading
    c.args.scene.now (expression_of c.args.b.now)) (expressing.truth_of false) c.args.stores.now c.args.asker.now
    c.operand.new.asker c.operand.new.stores (λ e. operand_at e.values c.in_ok-v.v) c.in_ok-v.ensures.does
    c.decide.new.asker c.in_ok-told.told f.asks f.tells f.sorted f.says c.if-told.true c.operand-then-told.new.asker h)
    c.operand-then-told.ensures.halts

pub both-returns-else-told-clause-does : goal.both-returns-else-told-clause-does
both-returns-else-told-clause-does g t c =
    let K = g.K.Asker in
    let f = c.in_ok-told.ensures in
    evaluating.no_done K.path K.turns K.decisions K.stands K.ended K.sorts c.args.own.now c.args.reading c.args.scene.now
    (expression_of c.args.a.now) (expressing.value_of c.args.reading c.args.scene.now (expression_of c.args.b.now))
    (expressing.truth_of false) c.args.stores.now c.args.asker.now c.operand.new.asker c.operand.new.stores (λ e.
    operand_at e.values c.in_ok-v.v) c.in_ok-v.ensures.does c.decide.new.asker c.in_ok-told.told f.asks f.tells f.sorted
    f.says c.if-told.false c.decide.new.asker _ (expressing.known_done K.path K.turns K.decisions K.stands K.ended
    K.sorts c.args.own.now c.operand.new.stores c.decide.new.asker false c.known.result (λ e. c.known.ensures.value
    e.values))

pub either-operand-requires : goal.either-operand-requires
either-operand-requires g t c κs within =
    let K = g.K.Asker in (
      omega (arith),
      (
        search rules,
        (
          c.requires.scene,
          (
            c.requires.stores,
            evaluating.branch_first K.path K.turns K.decisions
                K.stands K.ended K.sorts c.args.own.now c.args.reading c.args.scene.now (expression_of c.args.a.now)
                (expressing.truth_of true) (expressing.value_of c.args.reading c.args.scene.now (expression_of c.args.b.now))
                c.args.stores.now c.args.asker.now c.requires.ready,
          ),
        ),
      ),
    )

pub either-returns-in_err-v-clause-halts : goal.either-returns-in_err-v-clause-halts
either-returns-in_err-v-clause-halts g t c =
    let K = g.K.Asker in
    when_err c.from_residual.result (evaluating.branch_stops K.path K.turns K.decisions K.stands K.ended K.sorts
    c.args.own.now c.args.reading c.args.scene.now (expression_of c.args.a.now) (expressing.truth_of true)
    (expressing.value_of c.args.reading c.args.scene.now (expression_of c.args.b.now)) c.args.stores.now c.args.asker.now
    c.operand.new.asker c.in_err-v.ensures.halts)

pub either-decide-requires-clause-ready : goal.either-decide-requires-clause-ready
either-decide-requires-clause-ready g t c =
    let K = g.K.Asker in
    evaluating.branch_sorted K.path K.turns K.decisions K.stands K.ended K.sorts c.args.own.now c.args.reading
    c.args.scene.now (expression_of c.args.a.now) (expressing.truth_of true) (expressing.value_of c.args.reading
    c.args.scene.now (expression_of c.args.b.now)) c.args.stores.now c.args.asker.now c.operand.new.asker
    c.operand.new.stores (λ e. operand_at e.values c.in_ok-v.v) c.in_ok-v.ensures.does c.requires.ready

pub either-returns-in_err-told-clause-halts : goal.either-returns-in_err-told-clause-halts
either-returns-in_err-told-clause-halts g t c =
    let K = g.K.Asker in
    let f = c.in_err-told.ensures in
    when_err c.from_residual-in_err-told.result (evaluating.branch_unasked K.path K.turns K.decisions K.stands K.ended
    K.sorts c.args.own.now c.args.reading c.args.scene.now (expression_of c.args.a.now) (expressing.truth_of true)
    (expressing.value_of c.args.reading c.args.scene.now (expression_of c.args.b.now)) c.args.stores.now c.args.asker.now
    c.operand.new.asker c.operand.new.stores (λ e. operand_at e.values c.in_ok-v.v) c.in_ok-v.ensures.does
    c.decide.new.asker f.stops f.stopped f.same_sorts f.stopped_sorted)

pub either-operand-requires-then-not-told : goal.either-operand-requires-then-not-told
either-operand-requires-then-not-told g t c κs within =
    let K = g.K.Asker in
    let f = c.in_ok-told.ensures in (
      omega (arith),
      (
        search rules,
        (
          scene_grown _ _ _ (expressing.front_same _ _ _ c.in_ok-v.ensures.does.grows f.same_sorts)
              c.requires.scene,
          (
            expressing.stores_same _ _ _ f.same_sorts c.in_ok-v.ensures.stores,
            evaluating.no_may K.path
                K.turns K.decisions K.stands K.ended K.sorts c.args.own.now c.args.reading c.args.scene.now (expression_of
                c.args.a.now) (expressing.truth_of true) (expressing.value_of c.args.reading c.args.scene.now (expression_of
                c.args.b.now)) c.args.stores.now c.args.asker.now c.operand.new.asker c.operand.new.stores (λ e. operand_at
                e.values
                c.in_ok-v.v) c.in_ok-v.ensures.does c.decide.new.asker c.in_ok-told.told f.asks f.tells f.sorted f.says
                c.if-not-told.true c.requires.ready,
          ),
        ),
      ),
    )

pub either-returns-then-not-told-clause-does : goal.either-returns-then-not-told-clause-does
either-returns-then-not-told-clause-does g t c =
    let K = g.K.Asker in
    let f = c.in_ok-told.ensures in
    ok_then c.operand-then-not-told.result _ _ (λ x h. evaluating.no_done K.path K.turns K.decisions K.stands K.ended K.sorts
    c.args.own.now c.args.reading c.args.scene.now (expression_of c.args.a.now) (expressing.truth_of true)
    (expressing.value_of c.args.reading c.args.scene.now (expression_of c.args.b.now)) c.args.stores.now c.args.asker.now
    c.operand.new.asker c.operand.new.stores (λ e. operand_at e.values c.in_ok-v.v) c.in_ok-v.ensures.does
    c.decide.new.asker c.in_ok-told.told f.asks f.tells f.sorted f.says c.if-not-told.true
    c.operand-then-not-told.new.asker _ h) c.operand-then-not-told.ensures.does

pub either-returns-then-not-told-clause-halts : goal.either-returns-then-not-told-clause-halts
either-returns-then-not-told-clause-halts g t c =
    let K = g.K.Asker in
    let f = c.in_ok-told.ensures in
    err_then c.operand-then-not-told.result (λ h. evaluating.no_stops K.path K.turns K.decisions K.stands K.ended K.sorts
    c.args.own.now c.args.reading c.args.scene.now (expression_of c.args.a.now) (expressing.truth_of true)
    (expressing.value_of c.args.reading c.args.scene.now (expression_of c.args.b.now)) c.args.stores.now c.args.asker.now
    c.operand.new.asker c.operand.new.stores (λ e. operand_at e.values c.in_ok-v.v) c.in_ok-v.ensures.does
    c.decide.new.asker c.in_ok-told.told f.asks f.tells f.sorted f.says c.if-not-told.true
    c.operand-then-not-told.new.asker h) c.operand-then-not-told.ensures.halts

pub either-returns-else-not-told-clause-does : goal.either-returns-else-not-told-clause-does
either-returns-else-not-told-clause-does g t c =
    let K = g.K.Asker in
    let f = c.in_ok-told.ensures in
    evaluating.yes_done K.path K.turns K.decisions K.stands K.ended K.sorts c.args.own.now c.args.reading c.args.scene.now
    (expression_of c.args.a.now) (expressing.truth_of true) (expressing.value_of c.args.reading c.args.scene.now
    (expression_of c.args.b.now)) c.args.stores.now c.args.asker.now c.operand.new.asker c.operand.new.stores (λ e.
    operand_at e.values c.in_ok-v.v) c.in_ok-v.ensures.does c.decide.new.asker c.in_ok-told.told f.asks f.tells f.sorted
    f.says c.if-not-told.false c.decide.new.asker _ (expressing.known_done K.path K.turns K.decisions K.stands K.ended
    K.sorts c.args.own.now c.operand.new.stores c.decide.new.asker true c.known.result (λ e. c.known.ensures.value
    e.values))

pub implied-operand-requires : goal.implied-operand-requires
implied-operand-requires g t c κs within =
    let K = g.K.Asker in (
      omega (arith),
      (
        search rules,
        (
          c.requires.scene,
          (
            c.requires.stores,
            evaluating.branch_first K.path K.turns K.decisions
                K.stands K.ended K.sorts c.args.own.now c.args.reading c.args.scene.now (expression_of c.args.a.now)
                (expressing.value_of c.args.reading c.args.scene.now (expression_of c.args.b.now)) (expressing.truth_of true)
                c.args.stores.now c.args.asker.now c.requires.ready,
          ),
        ),
      ),
    )

pub implied-returns-in_err-v-clause-halts : goal.implied-returns-in_err-v-clause-halts
implied-returns-in_err-v-clause-halts g t c =
    let K = g.K.Asker in
    when_err c.from_residual.result (evaluating.branch_stops K.path K.turns K.decisions K.stands K.ended K.sorts
    c.args.own.now c.args.reading c.args.scene.now (expression_of c.args.a.now) (expressing.value_of c.args.reading
    c.args.scene.now (expression_of c.args.b.now)) (expressing.truth_of true) c.args.stores.now c.args.asker.now
    c.operand.new.asker c.in_err-v.ensures.halts)

pub implied-decide-requires-clause-ready : goal.implied-decide-requires-clause-ready
implied-decide-requires-clause-ready g t c =
    let K = g.K.Asker in
    evaluating.branch_sorted K.path K.turns K.decisions K.stands K.ended K.sorts c.args.own.now c.args.reading
    c.args.scene.now (expression_of c.args.a.now) (expressing.value_of c.args.reading c.args.scene.now (expression_of
    c.args.b.now)) (expressing.truth_of true) c.args.stores.now c.args.asker.now c.operand.new.asker c.operand.new.stores
    (λ e. operand_at e.values c.in_ok-v.v) c.in_ok-v.ensures.does c.requires.ready

pub implied-returns-in_err-told-clause-halts : goal.implied-returns-in_err-told-clause-halts
implied-returns-in_err-told-clause-halts g t c =
    let K = g.K.Asker in
    let f = c.in_err-told.ensures in
    when_err c.from_residual-in_err-told.result (evaluating.branch_unasked K.path K.turns K.decisions K.stands K.ended
    K.sorts c.args.own.now c.args.reading c.args.scene.now (expression_of c.args.a.now) (expressing.value_of
    c.args.reading c.args.scene.now (expression_of c.args.b.now)) (expressing.truth_of true) c.args.stores.now
    c.args.asker.now c.operand.new.asker c.operand.new.stores (λ e. operand_at e.values c.in_ok-v.v)
    c.in_ok-v.ensures.does c.decide.new.asker f.stops f.stopped f.same_sorts f.stopped_sorted)

pub implied-operand-requires-then-told : goal.implied-operand-requires-then-told
implied-operand-requires-then-told g t c κs within =
    let K = g.K.Asker in
    let f = c.in_ok-told.ensures in (
      omega (arith),
      (
        search rules,
        (
          scene_grown _ _ _ (expressing.front_same _ _ _ c.in_ok-v.ensures.does.grows f.same_sorts)
              c.requires.scene,
          (
            expressing.stores_same _ _ _ f.same_sorts c.in_ok-v.ensures.stores,
            evaluating.yes_may K.path
                K.turns K.decisions K.stands K.ended K.sorts c.args.own.now c.args.reading c.args.scene.now (expression_of
                c.args.a.now) (expressing.value_of c.args.reading c.args.scene.now (expression_of c.args.b.now))
                (expressing.truth_of
                true) c.args.stores.now c.args.asker.now c.operand.new.asker c.operand.new.stores (λ e. operand_at e.values
                c.in_ok-v.v) c.in_ok-v.ensures.does c.decide.new.asker c.in_ok-told.told f.asks f.tells f.sorted f.says
                c.if-told.true c.requires.ready,
          ),
        ),
      ),
    )

pub implied-returns-then-told-clause-does : goal.implied-returns-then-told-clause-does
implied-returns-then-told-clause-does g t c =
    let K = g.K.Asker in
    let f = c.in_ok-told.ensures in
    ok_then c.operand-then-told.result _ _ (λ x h. evaluating.yes_done K.path K.turns K.decisions K.stands K.ended K.sorts
    c.args.own.now c.args.reading c.args.scene.now (expression_of c.args.a.now) (expressing.value_of c.args.reading
    c.args.scene.now (expression_of c.args.b.now)) (expressing.truth_of true) c.args.stores.now c.args.asker.now
    c.operand.new.asker c.operand.new.stores (λ e. operand_at e.values c.in_ok-v.v) c.in_ok-v.ensures.does
    c.decide.new.asker c.in_ok-told.told f.asks f.tells f.sorted f.says c.if-told.true c.operand-then-told.new.asker _ h)
    c.operand-then-told.ensures.does

pub implied-returns-then-told-clause-halts : goal.implied-returns-then-told-clause-halts
implied-returns-then-told-clause-halts g t c =
    let K = g.K.Asker in
    let f = c.in_ok-told.ensures in
    err_then c.operand-then-told.result (λ h. evaluating.yes_stops K.path K.turns K.decisions K.stands K.ended K.sorts
    c.args.own.now c.args.reading c.args.scene.now (expression_of c.args.a.now) (expressing.value_of c.args.reading
    c.args.scene.now (expression_of c.args.b.now)) (expressing.truth_of true) c.args.stores.now c.args.asker.now
    c.operand.new.asker c.operand.new.stores (λ e. operand_at e.values c.in_ok-v.v) c.in_ok-v.ensures.does
    c.decide.new.asker c.in_ok-told.told f.asks f.tells f.sorted f.says c.if-told.true c.operand-then-told.new.asker h)
    c.operand-then-told.ensures.halts

pub implied-returns-else-told-clause-does : goal.implied-returns-else-told-clause-does
implied-returns-else-told-clause-does g t c =
    let K = g.K.Asker in
    let f = c.in_ok-told.ensures in
    evaluating.no_done K.path K.turns K.decisions K.stands K.ended K.sorts c.args.own.now c.args.reading c.args.scene.now
    (expression_of c.args.a.now) (expressing.value_of c.args.reading c.args.scene.now (expression_of c.args.b.now))
    (expressing.truth_of true) c.args.stores.now c.args.asker.now c.operand.new.asker c.operand.new.stores (λ e.
    operand_at e.values c.in_ok-v.v) c.in_ok-v.ensures.does c.decide.new.asker c.in_ok-told.told f.asks f.tells f.sorted
    f.says c.if-told.false c.decide.new.asker _ (expressing.known_done K.path K.turns K.decisions K.stands K.ended
    K.sorts c.args.own.now c.operand.new.stores c.decide.new.asker true c.known.result (λ e. c.known.ensures.value
    e.values))

pub opposite-operand-requires : goal.opposite-operand-requires
opposite-operand-requires g t c κs within =
    let K = g.K.Asker in (
      omega (arith),
      (
        search rules,
        (
          c.requires.scene,
          (
            c.requires.stores,
            evaluating.single_first K.path K.turns K.decisions
                K.stands K.ended K.sorts c.args.own.now c.args.reading c.args.scene.now (expression_of c.args.a.now) (λ e v.
                expressing.turned v) c.args.stores.now c.args.asker.now c.requires.ready,
          ),
        ),
      ),
    )

pub opposite-returns-in_err-v-clause-halts : goal.opposite-returns-in_err-v-clause-halts
opposite-returns-in_err-v-clause-halts g t c =
    let K = g.K.Asker in
    when_err c.from_residual.result (evaluating.single_stops K.path K.turns K.decisions K.stands K.ended K.sorts
    c.args.own.now c.args.reading c.args.scene.now (expression_of c.args.a.now) (λ e v. expressing.turned v)
    c.args.stores.now c.args.asker.now c.operand.new.asker c.in_err-v.ensures.halts)

pub opposite-returns-clause-does : goal.opposite-returns-clause-does
opposite-returns-clause-does g t c =
    let K = g.K.Asker in
    evaluating.opposite_done K.path K.turns K.decisions K.stands K.ended K.sorts c.args.own.now c.args.reading
    c.args.scene.now (expression_of c.args.a.now) c.args.stores.now c.args.asker.now c.operand.new.asker
    c.operand.new.stores (λ e. operand_at e.values c.in_ok-v.v) c.opposite.result c.in_ok-v.ensures.does (λ e.
    c.opposite.ensures.value e.values)

pub opposite-returns-clause-made : goal.opposite-returns-clause-made
opposite-returns-clause-made g t c =
    let K = g.K.Asker in
    c.opposite.ensures.made (K.sorts c.operand.new.asker) c.in_ok-v.ensures.made

pub operand-returns-in-Not-clause-does : goal.operand-returns-in-Not-clause-does
operand-returns-in-Not-clause-does g t c =
    let K = g.K.Asker in
    expressing.value_done K.path K.turns K.decisions K.stands K.ended K.sorts c.args.own.now c.args.reading c.args.scene.now
    c.args.stores.now c.args.asker.now c.opposite.new.asker (core.Not (expression_of c.get.result.now)) (expression_of
    c.args.x.now) (search (rules, views.the_lemmas, folds.the_lemmas)) c.opposite.result c.opposite.new.stores
    c.opposite.ensures.does

pub operand-returns-in-Not-clause-halts : goal.operand-returns-in-Not-clause-halts
operand-returns-in-Not-clause-halts g t c =
    let K = g.K.Asker in
    expressing.value_stops K.path K.turns K.decisions K.stands K.ended K.sorts c.args.own.now c.args.reading c.args.scene.now
    c.args.stores.now c.args.asker.now c.opposite.new.asker (core.Not (expression_of c.get.result.now)) (expression_of
    c.args.x.now) (search (rules, views.the_lemmas, folds.the_lemmas)) c.opposite.result c.opposite.ensures.halts

pub operand-returns-in-Compute-clause-does : goal.operand-returns-in-Compute-clause-does
operand-returns-in-Compute-clause-does g t c =
    let K = g.K.Asker in
    expressing.value_done K.path K.turns K.decisions K.stands K.ended K.sorts c.args.own.now c.args.reading c.args.scene.now
    c.args.stores.now c.args.asker.now c.computed.new.asker (core.Compute (manner_of c.in-Compute.manner) (operation_of
    c.in-Compute.operation) (expression_of c.get-in-Compute.result.now) (expression_of c.get-in-Compute-2.result.now)
    c.in-Compute.span) (expression_of c.args.x.now) (search (rules, views.the_lemmas, folds.the_lemmas))
    c.computed.result c.computed.new.stores c.computed.ensures.does

pub operand-returns-in-Compute-clause-halts : goal.operand-returns-in-Compute-clause-halts
operand-returns-in-Compute-clause-halts g t c =
    let K = g.K.Asker in
    expressing.value_stops K.path K.turns K.decisions K.stands K.ended K.sorts c.args.own.now c.args.reading c.args.scene.now
    c.args.stores.now c.args.asker.now c.computed.new.asker (core.Compute (manner_of c.in-Compute.manner) (operation_of
    c.in-Compute.operation) (expression_of c.get-in-Compute.result.now) (expression_of c.get-in-Compute-2.result.now)
    c.in-Compute.span) (expression_of c.args.x.now) (search (rules, views.the_lemmas, folds.the_lemmas))
    c.computed.result c.computed.ensures.halts

pub operand-returns-in-Compare-clause-does : goal.operand-returns-in-Compare-clause-does
operand-returns-in-Compare-clause-does g t c =
    let K = g.K.Asker in
    expressing.value_done K.path K.turns K.decisions K.stands K.ended K.sorts c.args.own.now c.args.reading c.args.scene.now
    c.args.stores.now c.args.asker.now c.compared.new.asker (core.Compare (comparison_of c.in-Compare.order)
    (expression_of c.get-in-Compare.result.now) (expression_of c.get-in-Compare-2.result.now)) (expression_of
    c.args.x.now) (search (rules, views.the_lemmas, folds.the_lemmas)) c.compared.result c.compared.new.stores
    c.compared.ensures.does

pub operand-returns-in-Compare-clause-halts : goal.operand-returns-in-Compare-clause-halts
operand-returns-in-Compare-clause-halts g t c =
    let K = g.K.Asker in
    expressing.value_stops K.path K.turns K.decisions K.stands K.ended K.sorts c.args.own.now c.args.reading c.args.scene.now
    c.args.stores.now c.args.asker.now c.compared.new.asker (core.Compare (comparison_of c.in-Compare.order)
    (expression_of c.get-in-Compare.result.now) (expression_of c.get-in-Compare-2.result.now)) (expression_of
    c.args.x.now) (search (rules, views.the_lemmas, folds.the_lemmas)) c.compared.result c.compared.ensures.halts

pub operand-returns-in-Equal-clause-does : goal.operand-returns-in-Equal-clause-does
operand-returns-in-Equal-clause-does g t c =
    let K = g.K.Asker in
    expressing.value_done K.path K.turns K.decisions K.stands K.ended K.sorts c.args.own.now c.args.reading c.args.scene.now
    c.args.stores.now c.args.asker.now c.equal.new.asker (core.Equal c.in-Equal.same (expression_of
    c.get-in-Equal.result.now) (expression_of c.get-in-Equal-2.result.now)) (expression_of c.args.x.now) (search (
      rules,
      views.the_lemmas,
      folds.the_lemmas,
    )) c.equal.result c.equal.new.stores c.equal.ensures.does

pub operand-returns-in-Equal-clause-halts : goal.operand-returns-in-Equal-clause-halts
operand-returns-in-Equal-clause-halts g t c =
    let K = g.K.Asker in
    expressing.value_stops K.path K.turns K.decisions K.stands K.ended K.sorts c.args.own.now c.args.reading c.args.scene.now
    c.args.stores.now c.args.asker.now c.equal.new.asker (core.Equal c.in-Equal.same (expression_of
    c.get-in-Equal.result.now) (expression_of c.get-in-Equal-2.result.now)) (expression_of c.args.x.now) (search (
      rules,
      views.the_lemmas,
      folds.the_lemmas,
    )) c.equal.result c.equal.ensures.halts

pub operand-returns-in-And-clause-does : goal.operand-returns-in-And-clause-does
operand-returns-in-And-clause-does g t c =
    let K = g.K.Asker in
    expressing.value_done K.path K.turns K.decisions K.stands K.ended K.sorts c.args.own.now c.args.reading c.args.scene.now
    c.args.stores.now c.args.asker.now c.both.new.asker (core.And (expression_of c.get-in-And.result.now) (expression_of
    c.get-in-And-2.result.now)) (expression_of c.args.x.now) (search (rules, views.the_lemmas, folds.the_lemmas))
    c.both.result c.both.new.stores c.both.ensures.does

pub operand-returns-in-And-clause-halts : goal.operand-returns-in-And-clause-halts
operand-returns-in-And-clause-halts g t c =
    let K = g.K.Asker in
    expressing.value_stops K.path K.turns K.decisions K.stands K.ended K.sorts c.args.own.now c.args.reading c.args.scene.now
    c.args.stores.now c.args.asker.now c.both.new.asker (core.And (expression_of c.get-in-And.result.now) (expression_of
    c.get-in-And-2.result.now)) (expression_of c.args.x.now) (search (rules, views.the_lemmas, folds.the_lemmas))
    c.both.result c.both.ensures.halts

pub operand-returns-in-Or-clause-does : goal.operand-returns-in-Or-clause-does
operand-returns-in-Or-clause-does g t c =
    let K = g.K.Asker in
    expressing.value_done K.path K.turns K.decisions K.stands K.ended K.sorts c.args.own.now c.args.reading c.args.scene.now
    c.args.stores.now c.args.asker.now c.either.new.asker (core.Or (expression_of c.get-in-Or.result.now) (expression_of
    c.get-in-Or-2.result.now)) (expression_of c.args.x.now) (search (rules, views.the_lemmas, folds.the_lemmas))
    c.either.result c.either.new.stores c.either.ensures.does

pub operand-returns-in-Or-clause-halts : goal.operand-returns-in-Or-clause-halts
operand-returns-in-Or-clause-halts g t c =
    let K = g.K.Asker in
    expressing.value_stops K.path K.turns K.decisions K.stands K.ended K.sorts c.args.own.now c.args.reading c.args.scene.now
    c.args.stores.now c.args.asker.now c.either.new.asker (core.Or (expression_of c.get-in-Or.result.now) (expression_of
    c.get-in-Or-2.result.now)) (expression_of c.args.x.now) (search (rules, views.the_lemmas, folds.the_lemmas))
    c.either.result c.either.ensures.halts

pub operand-returns-in-Implies-clause-does : goal.operand-returns-in-Implies-clause-does
operand-returns-in-Implies-clause-does g t c =
    let K = g.K.Asker in
    expressing.value_done K.path K.turns K.decisions K.stands K.ended K.sorts c.args.own.now c.args.reading c.args.scene.now
    c.args.stores.now c.args.asker.now c.implied.new.asker (core.Implies (expression_of c.get-in-Implies.result.now)
    (expression_of c.get-in-Implies-2.result.now)) (expression_of c.args.x.now) (search (
      rules,
      views.the_lemmas,
      folds.the_lemmas,
    )) c.implied.result c.implied.new.stores c.implied.ensures.does

pub operand-returns-in-Implies-clause-halts : goal.operand-returns-in-Implies-clause-halts
operand-returns-in-Implies-clause-halts g t c =
    let K = g.K.Asker in
    expressing.value_stops K.path K.turns K.decisions K.stands K.ended K.sorts c.args.own.now c.args.reading c.args.scene.now
    c.args.stores.now c.args.asker.now c.implied.new.asker (core.Implies (expression_of c.get-in-Implies.result.now)
    (expression_of c.get-in-Implies-2.result.now)) (expression_of c.args.x.now) (search (
      rules,
      views.the_lemmas,
      folds.the_lemmas,
    )) c.implied.result c.implied.ensures.halts

pub operand-returns-in-Constant-clause-does : goal.operand-returns-in-Constant-clause-does
operand-returns-in-Constant-clause-does g t c =
    let K = g.K.Asker in
    ok_then c.constant.result _ _ (λ v h. expressing.value_at_once K.path K.turns K.decisions K.stands K.ended K.sorts
    c.args.own.now c.args.reading c.args.scene.now c.args.stores.now c.args.asker.now v (λ e. c.in-Constant.value)
    (core.Constant c.in-Constant.value) (expression_of c.args.x.now) (search (rules, views.the_lemmas, folds.the_lemmas))
    (λ e. refl) (λ e. h e.values)) c.constant.ensures.value

pub operand-returns-in-This-clause-does : goal.operand-returns-in-This-clause-does
operand-returns-in-This-clause-does g t c =
    let K = g.K.Asker in
    expressing.value_at_once K.path K.turns K.decisions K.stands K.ended K.sorts c.args.own.now c.args.reading
    c.args.scene.now c.args.stores.now c.args.asker.now (One c.reference.result) (λ e. value.Reference (reference_at
    e.values c.args.scene.now.this.0)) core.This (expression_of c.args.x.now) (search (
      rules,
      views.the_lemmas,
      folds.the_lemmas,
    )) (λ e. refl) (λ e. c.reference.ensures.value e.values)

pub operand-returns-in-This-clause-made : goal.operand-returns-in-This-clause-made
operand-returns-in-This-clause-made g t c =
    let K = g.K.Asker in
    c.reference.ensures.made (K.sorts c.args.asker.now) c.requires.scene.this

pub operand-returns-in-Result-clause-does : goal.operand-returns-in-Result-clause-does
operand-returns-in-Result-clause-does g t c =
    let K = g.K.Asker in
    expressing.value_at_once K.path K.turns K.decisions K.stands K.ended K.sorts c.args.own.now c.args.reading
    c.args.scene.now c.args.stores.now c.args.asker.now (One c.args.scene.now.result) (λ e. value_at e.values
    c.args.scene.now.result) core.Result (expression_of c.args.x.now) (search (
      rules,
      views.the_lemmas,
      folds.the_lemmas,
    )) (λ e. refl) (λ e. refl)

pub operand-returns-in-Variable-clause-does : goal.operand-returns-in-Variable-clause-does
operand-returns-in-Variable-clause-does g t c =
    let K = g.K.Asker in
    expressing.value_at_once K.path K.turns K.decisions K.stands K.ended K.sorts c.args.own.now c.args.reading
    c.args.scene.now c.args.stores.now c.args.asker.now (One c.lookup.result) (λ e. variables_at e.values
    c.args.scene.now.locals.items c.in-Variable.name.0) (core.Variable c.in-Variable.name) (expression_of c.args.x.now)
    (search (rules, views.the_lemmas, folds.the_lemmas)) (λ e. refl) (λ e. rw c.deref.ensures.value at
    c.lookup.ensures.value e.values)

pub operand-returns-in-Old-clause-does : goal.operand-returns-in-Old-clause-does
operand-returns-in-Old-clause-does g t c =
    let K = g.K.Asker in
    expressing.value_done K.path K.turns K.decisions K.stands K.ended K.sorts c.args.own.now c.args.reading c.args.scene.now
    c.args.stores.now c.args.asker.now c.operand.new.asker (core.Old (expression_of c.get-in-Old.result.now))
    (expression_of c.args.x.now) (search (rules, views.the_lemmas, folds.the_lemmas)) c.operand.result
    c.operand.new.stores (expressing.old_done K.path K.turns K.decisions K.stands K.ended K.sorts c.args.own.now
    c.args.reading c.args.scene.now c.args.stores.now c.args.asker.now c.operand.new.asker (expression_of
    c.get-in-Old.result.now) c.of_old.result c.of_old.ensures.old c.operand.result c.operand.new.stores
    c.operand.ensures.does)

pub operand-returns-in-Old-clause-halts : goal.operand-returns-in-Old-clause-halts
operand-returns-in-Old-clause-halts g t c =
    let K = g.K.Asker in
    expressing.value_stops K.path K.turns K.decisions K.stands K.ended K.sorts c.args.own.now c.args.reading c.args.scene.now
    c.args.stores.now c.args.asker.now c.operand.new.asker (core.Old (expression_of c.get-in-Old.result.now))
    (expression_of c.args.x.now) (search (rules, views.the_lemmas, folds.the_lemmas)) c.operand.result
    (expressing.old_stops K.path K.turns K.decisions K.stands K.ended K.sorts c.args.own.now c.args.reading
    c.args.scene.now c.args.stores.now c.args.asker.now c.operand.new.asker (expression_of c.get-in-Old.result.now)
    c.of_old.result c.of_old.ensures.old c.operand.result c.operand.ensures.halts)

pub operand-computed-requires : goal.operand-computed-requires
operand-computed-requires g t c κs within =
    let K = g.K.Asker in
    let one : the_size c.get-in-Compute.result.now < the_size c.args.x.now = search (rules, views.the_lemmas) in
    let two : the_size c.get-in-Compute-2.result.now < the_size c.args.x.now = search (rules, views.the_lemmas) in
    let less : 2 * max (the_size c.get-in-Compute.result.now) (the_size c.get-in-Compute-2.result.now) + 1 < t = omega
    (arith, one, two, c.decreases) in (
      less,
      (
        search rules,
        (
          c.requires.scene,
          (
            c.requires.stores,
            expressing.value_may K.path K.turns K.decisions K.stands
                K.ended K.sorts c.args.own.now c.args.reading c.args.scene.now c.args.stores.now c.args.asker.now (core.Compute
                (manner_of c.in-Compute.manner) (operation_of c.in-Compute.operation) (expression_of c.get-in-Compute.result.now)
                (expression_of c.get-in-Compute-2.result.now) c.in-Compute.span) (expression_of c.args.x.now) (search (
                  rules,
                  views.the_lemmas,
                  folds.the_lemmas,
                )) c.requires.ready,
          ),
        ),
      ),
    )

pub operand-compared-requires : goal.operand-compared-requires
operand-compared-requires g t c κs within =
    let K = g.K.Asker in
    let one : the_size c.get-in-Compare.result.now < the_size c.args.x.now = search (rules, views.the_lemmas) in
    let two : the_size c.get-in-Compare-2.result.now < the_size c.args.x.now = search (rules, views.the_lemmas) in
    let less : 2 * max (the_size c.get-in-Compare.result.now) (the_size c.get-in-Compare-2.result.now) + 1 < t = omega
    (arith, one, two, c.decreases) in (
      less,
      (
        search rules,
        (
          c.requires.scene,
          (
            c.requires.stores,
            expressing.value_may K.path K.turns K.decisions K.stands
                K.ended K.sorts c.args.own.now c.args.reading c.args.scene.now c.args.stores.now c.args.asker.now (core.Compare
                (comparison_of c.in-Compare.order) (expression_of c.get-in-Compare.result.now) (expression_of
                c.get-in-Compare-2.result.now)) (expression_of c.args.x.now) (search (rules, views.the_lemmas, folds.the_lemmas))
                c.requires.ready,
          ),
        ),
      ),
    )

pub operand-equal-requires : goal.operand-equal-requires
operand-equal-requires g t c κs within =
    let K = g.K.Asker in
    let one : the_size c.get-in-Equal.result.now < the_size c.args.x.now = search (rules, views.the_lemmas) in
    let two : the_size c.get-in-Equal-2.result.now < the_size c.args.x.now = search (rules, views.the_lemmas) in
    let less : 2 * max (the_size c.get-in-Equal.result.now) (the_size c.get-in-Equal-2.result.now) + 1 < t = omega (
      arith,
      one,
      two,
      c.decreases,
    ) in (
      less,
      (
        search rules,
        (
          c.requires.scene,
          (
            c.requires.stores,
            expressing.value_may K.path K.turns K.decisions K.stands
                K.ended K.sorts c.args.own.now c.args.reading c.args.scene.now c.args.stores.now c.args.asker.now (core.Equal
                c.in-Equal.same (expression_of c.get-in-Equal.result.now) (expression_of c.get-in-Equal-2.result.now))
                (expression_of
                c.args.x.now) (search (rules, views.the_lemmas, folds.the_lemmas)) c.requires.ready,
          ),
        ),
      ),
    )

pub operand-both-requires : goal.operand-both-requires
operand-both-requires g t c κs within =
    let K = g.K.Asker in
    let one : the_size c.get-in-And.result.now < the_size c.args.x.now = search (rules, views.the_lemmas) in
    let two : the_size c.get-in-And-2.result.now < the_size c.args.x.now = search (rules, views.the_lemmas) in
    let less : 2 * max (the_size c.get-in-And.result.now) (the_size c.get-in-And-2.result.now) + 1 < t = omega (
      arith,
      one,
      two,
      c.decreases,
    ) in (
      less,
      (
        search rules,
        (
          c.requires.scene,
          (
            c.requires.stores,
            expressing.value_may K.path K.turns K.decisions K.stands
                K.ended K.sorts c.args.own.now c.args.reading c.args.scene.now c.args.stores.now c.args.asker.now (core.And
                (expression_of c.get-in-And.result.now) (expression_of c.get-in-And-2.result.now)) (expression_of c.args.x.now)
                (search (rules, views.the_lemmas, folds.the_lemmas)) c.requires.ready,
          ),
        ),
      ),
    )

pub operand-either-requires : goal.operand-either-requires
operand-either-requires g t c κs within =
    let K = g.K.Asker in
    let one : the_size c.get-in-Or.result.now < the_size c.args.x.now = search (rules, views.the_lemmas) in
    let two : the_size c.get-in-Or-2.result.now < the_size c.args.x.now = search (rules, views.the_lemmas) in
    let less : 2 * max (the_size c.get-in-Or.result.now) (the_size c.get-in-Or-2.result.now) + 1 < t = omega (
      arith,
      one,
      two,
      c.decreases,
    ) in (
      less,
      (
        search rules,
        (
          c.requires.scene,
          (
            c.requires.stores,
            expressing.value_may K.path K.turns K.decisions K.stands
                K.ended K.sorts c.args.own.now c.args.reading c.args.scene.now c.args.stores.now c.args.asker.now (core.Or
                (expression_of c.get-in-Or.result.now) (expression_of c.get-in-Or-2.result.now)) (expression_of c.args.x.now)
                (search
                (rules, views.the_lemmas, folds.the_lemmas)) c.requires.ready,
          ),
        ),
      ),
    )

pub operand-implied-requires : goal.operand-implied-requires
operand-implied-requires g t c κs within =
    let K = g.K.Asker in
    let one : the_size c.get-in-Implies.result.now < the_size c.args.x.now = search (rules, views.the_lemmas) in
    let two : the_size c.get-in-Implies-2.result.now < the_size c.args.x.now = search (rules, views.the_lemmas) in
    let less : 2 * max (the_size c.get-in-Implies.result.now) (the_size c.get-in-Implies-2.result.now) + 1 < t = omega
    (arith, one, two, c.decreases) in (
      less,
      (
        search rules,
        (
          c.requires.scene,
          (
            c.requires.stores,
            expressing.value_may K.path K.turns K.decisions K.stands
                K.ended K.sorts c.args.own.now c.args.reading c.args.scene.now c.args.stores.now c.args.asker.now (core.Implies
                (expression_of c.get-in-Implies.result.now) (expression_of c.get-in-Implies-2.result.now)) (expression_of
                c.args.x.now) (search (rules, views.the_lemmas, folds.the_lemmas)) c.requires.ready,
          ),
        ),
      ),
    )

pub operand-opposite-requires : goal.operand-opposite-requires
operand-opposite-requires g t c κs within =
    let K = g.K.Asker in
    let one : the_size c.get.result.now < the_size c.args.x.now = search (rules, views.the_lemmas) in
    let less : 2 * the_size c.get.result.now + 1 < t = omega (arith, one, c.decreases) in (
      less,
      (
        search rules,
        (
          c.requires.scene,
          (
            c.requires.stores,
            expressing.value_may K.path K.turns K.decisions K.stands
                K.ended K.sorts c.args.own.now c.args.reading c.args.scene.now c.args.stores.now c.args.asker.now (core.Not
                (expression_of c.get.result.now)) (expression_of c.args.x.now) (search (
                  rules,
                  views.the_lemmas,
                  folds.the_lemmas,
                ))
                c.requires.ready,
          ),
        ),
      ),
    )
