use Rattle.pv_picks.specs.Plain.Trees.{expression_of}
use Rattle.pv_picks.specs.Judge.Exhaling.{span_or}
use Rattle.pv_picks.specs.Judge.Runs.{Failed}
use Rattle.pv_state.specs.declared.operands.Reading.TheVariants.{Exhaled}
use Rattle.pv_state.specs.Runs.{operand_at}
use Rattle.pv_state.proofs.Taken.{when_err}
use Rattle.pv_state.proofs.Evaluating as evaluating
use Rattle.pv_state.proofs.Conjuncts as conjuncts
use Rattle.pv_state.proofs.formulas.exhale_fact.Goals as goal

pub operand-requires-clause-ready : goal.operand-requires-clause-ready
operand-requires-clause-ready g c =
    let K = g.K.Asker in
    evaluating.branch_first K.path K.turns K.decisions K.stands K.ended K.sorts c.args.own.now Exhaled c.args.scene.now
    (expression_of c.args.x.now) conjuncts.going (conjuncts.ending (Failed c.args.check (span_or c.args.statement
    c.args.span))) c.args.stores.now c.args.asker.now c.requires.ready

pub returns-in_err-v-clause-halts : goal.returns-in_err-v-clause-halts
returns-in_err-v-clause-halts g c =
    let K = g.K.Asker in
    when_err c.from_residual.result (evaluating.branch_stops K.path K.turns K.decisions K.stands K.ended K.sorts
    c.args.own.now Exhaled c.args.scene.now (expression_of c.args.x.now) conjuncts.going (conjuncts.ending (Failed
    c.args.check (span_or c.args.statement c.args.span))) c.args.stores.now c.args.asker.now c.operand.new.asker
    c.in_err-v.ensures.halts)

pub decide-requires-clause-ready : goal.decide-requires-clause-ready
decide-requires-clause-ready g c =
    let K = g.K.Asker in
    evaluating.branch_sorted K.path K.turns K.decisions K.stands K.ended K.sorts c.args.own.now Exhaled c.args.scene.now
    (expression_of c.args.x.now) conjuncts.going (conjuncts.ending (Failed c.args.check (span_or c.args.statement
    c.args.span))) c.args.stores.now c.args.asker.now c.operand.new.asker c.operand.new.stores (λ e. operand_at e.values
    c.in_ok-v.v) c.in_ok-v.ensures.does c.requires.ready

pub returns-in_err-told-clause-halts : goal.returns-in_err-told-clause-halts
returns-in_err-told-clause-halts g c =
    let K = g.K.Asker in
    let f = c.in_err-told.ensures in
    when_err c.from_residual-in_err-told.result (evaluating.branch_unasked K.path K.turns K.decisions K.stands K.ended
    K.sorts c.args.own.now Exhaled c.args.scene.now (expression_of c.args.x.now) conjuncts.going (conjuncts.ending
    (Failed c.args.check (span_or c.args.statement c.args.span))) c.args.stores.now c.args.asker.now c.operand.new.asker
    c.operand.new.stores (λ e. operand_at e.values c.in_ok-v.v) c.in_ok-v.ensures.does c.decide.new.asker f.stops
    f.stopped f.same_sorts f.stopped_sorted)

pub returns-then-told-clause-does : goal.returns-then-told-clause-does
returns-then-told-clause-does g c =
    let K = g.K.Asker in
    let f = c.in_ok-told.ensures in
    evaluating.yes_done K.path K.turns K.decisions K.stands K.ended K.sorts c.args.own.now Exhaled c.args.scene.now
    (expression_of c.args.x.now) conjuncts.going (conjuncts.ending (Failed c.args.check (span_or c.args.statement
    c.args.span))) c.args.stores.now c.args.asker.now c.operand.new.asker c.operand.new.stores (λ e. operand_at e.values
    c.in_ok-v.v) c.in_ok-v.ensures.does c.decide.new.asker c.in_ok-told.told f.asks f.tells f.sorted f.says
    c.if-told.true c.decide.new.asker _ (conjuncts.goes_here K.path K.turns K.decisions K.stands K.ended K.sorts
    c.args.own.now c.operand.new.stores c.decide.new.asker)

pub returns-clause-does : goal.returns-clause-does
returns-clause-does g c =
    let K = g.K.Asker in
    let f = c.in_ok-told.ensures in
    rw c.span_or.ensures.span (evaluating.no_done K.path K.turns K.decisions K.stands K.ended K.sorts c.args.own.now Exhaled
    c.args.scene.now (expression_of c.args.x.now) conjuncts.going (conjuncts.ending (Failed c.args.check (span_or
    c.args.statement c.args.span))) c.args.stores.now c.args.asker.now c.operand.new.asker c.operand.new.stores (λ e.
    operand_at e.values c.in_ok-v.v) c.in_ok-v.ensures.does c.decide.new.asker c.in_ok-told.told f.asks f.tells f.sorted
    f.says c.if-told.false c.decide.new.asker _ (conjuncts.ends_here K.path K.turns K.decisions K.stands K.ended K.sorts
    c.args.own.now c.operand.new.stores c.decide.new.asker (Failed c.args.check (span_or c.args.statement c.args.span))))
