use Rattle.std.proofs.Common.{◌<◌, ◌+◌, ◌*◌, rules, arith}
use Rattle.std.specs.Prelude.{max}
use Rattle.pv_picks.specs.declared.plain.Formula.TheViews as views
use Rattle.pv_picks.specs.declared.plain.Formula.TheFolds as folds
use Rattle.pv_picks.proofs.plain.Formula.TheLaws.{the_size}
use Rattle.pv_picks.specs.Plain.Trees.{expression_of, formula_of}
use Rattle.pv_picks.specs.Judge.Runs.{Blocked, Failed}
use Rattle.pv_state.specs.declared.operands.Reading.TheVariants.{Exhaled}
use Rattle.pv_state.specs.Runs.{operand_at, give, fact_of, star_of, when_of}
use Rattle.pv_state.proofs.Taken.{when_err, err_then, ok_then}
use Rattle.pv_state.proofs.Sequences.{scene_grown}
use Rattle.pv_state.proofs.Expressing as expressing
use Rattle.pv_state.proofs.Evaluating as evaluating
use Rattle.pv_state.proofs.Conjuncts as conjuncts
use Rattle.pv_state.proofs.formulas.+exhale.Goals as goal

pub exhale_both-exhale-requires : goal.exhale_both-exhale-requires
exhale_both-exhale-requires g t c κs within =
    let K = g.K.Asker in (
      omega (arith, c.decreases),
      (
        search rules,
        (
          c.requires.scene,
          (
            c.requires.stores,
            conjuncts.turn_first K.path K.turns
                K.decisions K.stands K.ended K.sorts c.args.own.now ((give c.args.scene.now c.args.check c.args.statement)
                (formula_of c.args.a.now)) ((give c.args.scene.now c.args.check c.args.statement) (formula_of c.args.b.now))
                c.args.stores.now c.args.asker.now c.requires.ready,
          ),
        ),
      ),
    )

pub exhale_both-returns-in_err-first-clause-halts : goal.exhale_both-returns-in_err-first-clause-halts
exhale_both-returns-in_err-first-clause-halts g t c =
    let K = g.K.Asker in
    when_err c.from_residual.result (conjuncts.turn_stops K.path K.turns K.decisions K.stands K.ended K.sorts c.args.own.now
    ((give c.args.scene.now c.args.check c.args.statement) (formula_of c.args.a.now)) ((give c.args.scene.now
    c.args.check c.args.statement) (formula_of c.args.b.now)) c.args.stores.now c.args.asker.now c.exhale.new.asker
    c.in_err-first.ensures.halts)

pub exhale_both-exhale-requires-in-Goes : goal.exhale_both-exhale-requires-in-Goes
exhale_both-exhale-requires-in-Goes g t c κs within =
    let K = g.K.Asker in (
      omega (arith, c.decreases),
      (
        search rules,
        (
          scene_grown _ _ _ c.in_ok-first.ensures.does.grows c.requires.scene,
          (
            c.in_ok-first.ensures.stores,
            conjuncts.turn_second K.path K.turns K.decisions K.stands K.ended K.sorts
                c.args.own.now ((give c.args.scene.now c.args.check c.args.statement) (formula_of c.args.a.now)) ((give
                c.args.scene.now c.args.check c.args.statement) (formula_of c.args.b.now)) c.args.stores.now c.args.asker.now
                c.exhale.new.asker c.exhale.new.stores c.in_ok-first.first c.in-Goes.is c.in_ok-first.ensures.does
                c.requires.ready,
          ),
        ),
      ),
    )

pub exhale_both-returns-in-Goes-clause-does : goal.exhale_both-returns-in-Goes-clause-does
exhale_both-returns-in-Goes-clause-does g t c =
    let K = g.K.Asker in
    ok_then c.exhale-in-Goes.result _ _ (λ x h. conjuncts.turn_done K.path K.turns K.decisions K.stands K.ended K.sorts
    c.args.own.now ((give c.args.scene.now c.args.check c.args.statement) (formula_of c.args.a.now)) ((give
    c.args.scene.now c.args.check c.args.statement) (formula_of c.args.b.now)) c.args.stores.now c.args.asker.now
    c.exhale.new.asker c.exhale.new.stores c.in_ok-first.first c.in-Goes.is c.in_ok-first.ensures.does
    c.exhale-in-Goes.new.asker _ h) c.exhale-in-Goes.ensures.does

pub exhale_both-returns-in-Goes-clause-halts : goal.exhale_both-returns-in-Goes-clause-halts
exhale_both-returns-in-Goes-clause-halts g t c =
    let K = g.K.Asker in
    err_then c.exhale-in-Goes.result (λ h. conjuncts.turn_stops_second K.path K.turns K.decisions K.stands K.ended K.sorts
    c.args.own.now ((give c.args.scene.now c.args.check c.args.statement) (formula_of c.args.a.now)) ((give
    c.args.scene.now c.args.check c.args.statement) (formula_of c.args.b.now)) c.args.stores.now c.args.asker.now
    c.exhale.new.asker c.exhale.new.stores c.in_ok-first.first c.in-Goes.is c.in_ok-first.ensures.does
    c.exhale-in-Goes.new.asker h) c.exhale-in-Goes.ensures.halts

pub exhale_both-returns-in-Blocked-clause-does : goal.exhale_both-returns-in-Blocked-clause-does
exhale_both-returns-in-Blocked-clause-does g t c =
    let K = g.K.Asker in
    conjuncts.turn_ends K.path K.turns K.decisions K.stands K.ended K.sorts c.args.own.now ((give c.args.scene.now
    c.args.check c.args.statement) (formula_of c.args.a.now)) ((give c.args.scene.now c.args.check c.args.statement)
    (formula_of c.args.b.now)) c.args.stores.now c.args.asker.now c.exhale.new.asker c.exhale.new.stores Blocked (rw
    c.in-Blocked.is at c.in_ok-first.ensures.does)

pub exhale_both-returns-in-Failed-clause-does : goal.exhale_both-returns-in-Failed-clause-does
exhale_both-returns-in-Failed-clause-does g t c =
    let K = g.K.Asker in
    conjuncts.turn_ends K.path K.turns K.decisions K.stands K.ended K.sorts c.args.own.now ((give c.args.scene.now
    c.args.check c.args.statement) (formula_of c.args.a.now)) ((give c.args.scene.now c.args.check c.args.statement)
    (formula_of c.args.b.now)) c.args.stores.now c.args.asker.now c.exhale.new.asker c.exhale.new.stores (Failed
    c.in-Failed.check c.in-Failed.span) (rw c.in-Failed.is at c.in_ok-first.ensures.does)

pub exhale_when-operand-requires-clause-ready : goal.exhale_when-operand-requires-clause-ready
exhale_when-operand-requires-clause-ready g t c =
    let K = g.K.Asker in
    evaluating.branch_first K.path K.turns K.decisions K.stands K.ended K.sorts c.args.own.now Exhaled c.args.scene.now
    (expression_of c.args.x.now) ((give c.args.scene.now c.args.check c.args.statement) (formula_of c.args.body.now))
    conjuncts.going c.args.stores.now c.args.asker.now c.requires.ready

pub exhale_when-returns-in_err-v-clause-halts : goal.exhale_when-returns-in_err-v-clause-halts
exhale_when-returns-in_err-v-clause-halts g t c =
    let K = g.K.Asker in
    when_err c.from_residual.result (evaluating.branch_stops K.path K.turns K.decisions K.stands K.ended K.sorts
    c.args.own.now Exhaled c.args.scene.now (expression_of c.args.x.now) ((give c.args.scene.now c.args.check
    c.args.statement) (formula_of c.args.body.now)) conjuncts.going c.args.stores.now c.args.asker.now
    c.operand.new.asker c.in_err-v.ensures.halts)

pub exhale_when-decide-requires-clause-ready : goal.exhale_when-decide-requires-clause-ready
exhale_when-decide-requires-clause-ready g t c =
    let K = g.K.Asker in
    evaluating.branch_sorted K.path K.turns K.decisions K.stands K.ended K.sorts c.args.own.now Exhaled c.args.scene.now
    (expression_of c.args.x.now) ((give c.args.scene.now c.args.check c.args.statement) (formula_of c.args.body.now))
    conjuncts.going c.args.stores.now c.args.asker.now c.operand.new.asker c.operand.new.stores (λ e. operand_at e.values
    c.in_ok-v.v) c.in_ok-v.ensures.does c.requires.ready

pub exhale_when-returns-in_err-told-clause-halts : goal.exhale_when-returns-in_err-told-clause-halts
exhale_when-returns-in_err-told-clause-halts g t c =
    let K = g.K.Asker in
    let f = c.in_err-told.ensures in
    when_err c.from_residual-in_err-told.result (evaluating.branch_unasked K.path K.turns K.decisions K.stands K.ended
    K.sorts c.args.own.now Exhaled c.args.scene.now (expression_of c.args.x.now) ((give c.args.scene.now c.args.check
    c.args.statement) (formula_of c.args.body.now)) conjuncts.going c.args.stores.now c.args.asker.now
    c.operand.new.asker c.operand.new.stores (λ e. operand_at e.values c.in_ok-v.v) c.in_ok-v.ensures.does
    c.decide.new.asker f.stops f.stopped f.same_sorts f.stopped_sorted)

pub exhale_when-returns-then-not-told-clause-does : goal.exhale_when-returns-then-not-told-clause-does
exhale_when-returns-then-not-told-clause-does g t c =
    let K = g.K.Asker in
    let f = c.in_ok-told.ensures in
    evaluating.no_done K.path K.turns K.decisions K.stands K.ended K.sorts c.args.own.now Exhaled c.args.scene.now
    (expression_of c.args.x.now) ((give c.args.scene.now c.args.check c.args.statement) (formula_of c.args.body.now))
    conjuncts.going c.args.stores.now c.args.asker.now c.operand.new.asker c.operand.new.stores (λ e. operand_at e.values
    c.in_ok-v.v) c.in_ok-v.ensures.does c.decide.new.asker c.in_ok-told.told f.asks f.tells f.sorted f.says
    c.if-not-told.true c.decide.new.asker _ (conjuncts.goes_here K.path K.turns K.decisions K.stands K.ended K.sorts
    c.args.own.now c.operand.new.stores c.decide.new.asker)

pub exhale_when-exhale-requires : goal.exhale_when-exhale-requires
exhale_when-exhale-requires g t c κs within =
    let K = g.K.Asker in
    let f = c.in_ok-told.ensures in (
      omega (arith, c.decreases),
      (
        search rules,
        (
          scene_grown _ _ _ (expressing.front_same _ _ _ c.in_ok-v.ensures.does.grows
              f.same_sorts) c.requires.scene,
          (
            expressing.stores_same _ _ _ f.same_sorts c.in_ok-v.ensures.stores,
            evaluating.yes_may K.path K.turns K.decisions K.stands K.ended K.sorts c.args.own.now Exhaled c.args.scene.now
                (expression_of c.args.x.now) ((give c.args.scene.now c.args.check c.args.statement) (formula_of c.args.body.now))
                conjuncts.going c.args.stores.now c.args.asker.now c.operand.new.asker c.operand.new.stores (λ e. operand_at
                e.values
                c.in_ok-v.v) c.in_ok-v.ensures.does c.decide.new.asker c.in_ok-told.told f.asks f.tells f.sorted f.says
                c.if-not-told.false c.requires.ready,
          ),
        ),
      ),
    )

pub exhale_when-returns-clause-does : goal.exhale_when-returns-clause-does
exhale_when-returns-clause-does g t c =
    let K = g.K.Asker in
    let f = c.in_ok-told.ensures in
    ok_then c.exhale.result _ _ (λ x h. evaluating.yes_done K.path K.turns K.decisions K.stands K.ended K.sorts
    c.args.own.now Exhaled c.args.scene.now (expression_of c.args.x.now) ((give c.args.scene.now c.args.check
    c.args.statement) (formula_of c.args.body.now)) conjuncts.going c.args.stores.now c.args.asker.now
    c.operand.new.asker c.operand.new.stores (λ e. operand_at e.values c.in_ok-v.v) c.in_ok-v.ensures.does
    c.decide.new.asker c.in_ok-told.told f.asks f.tells f.sorted f.says c.if-not-told.false c.exhale.new.asker _ h)
    c.exhale.ensures.does

pub exhale_when-returns-clause-halts : goal.exhale_when-returns-clause-halts
exhale_when-returns-clause-halts g t c =
    let K = g.K.Asker in
    let f = c.in_ok-told.ensures in
    err_then c.exhale.result (λ h. evaluating.yes_stops K.path K.turns K.decisions K.stands K.ended K.sorts c.args.own.now
    Exhaled c.args.scene.now (expression_of c.args.x.now) ((give c.args.scene.now c.args.check c.args.statement)
    (formula_of c.args.body.now)) conjuncts.going c.args.stores.now c.args.asker.now c.operand.new.asker
    c.operand.new.stores (λ e. operand_at e.values c.in_ok-v.v) c.in_ok-v.ensures.does c.decide.new.asker
    c.in_ok-told.told f.asks f.tells f.sorted f.says c.if-not-told.false c.exhale.new.asker h) c.exhale.ensures.halts

pub exhale-exhale_fact-requires-clause-ready : goal.exhale-exhale_fact-requires-clause-ready
exhale-exhale_fact-requires-clause-ready g t c =
    let K = g.K.Asker in
    conjuncts.part_may K.path K.turns K.decisions K.stands K.ended K.sorts c.args.own.now (give c.args.scene.now c.args.check
    c.args.statement) c.args.stores.now c.args.asker.now (fact_of c.in-Fact.e c.in-Fact.span) (formula_of c.args.x.now)
    (search (rules, views.the_lemmas, folds.the_lemmas)) c.requires.ready

pub exhale-returns-in-Fact-clause-does : goal.exhale-returns-in-Fact-clause-does
exhale-returns-in-Fact-clause-does g t c =
    let K = g.K.Asker in
    conjuncts.part_done K.path K.turns K.decisions K.stands K.ended K.sorts c.args.own.now (give c.args.scene.now
    c.args.check c.args.statement) c.args.stores.now c.args.asker.now (fact_of c.in-Fact.e c.in-Fact.span) (formula_of
    c.args.x.now) (search (rules, views.the_lemmas, folds.the_lemmas)) c.exhale_fact.result c.exhale_fact.new.asker
    c.exhale_fact.new.stores c.exhale_fact.ensures.does

pub exhale-returns-in-Fact-clause-halts : goal.exhale-returns-in-Fact-clause-halts
exhale-returns-in-Fact-clause-halts g t c =
    let K = g.K.Asker in
    conjuncts.part_stops K.path K.turns K.decisions K.stands K.ended K.sorts c.args.own.now (give c.args.scene.now
    c.args.check c.args.statement) c.args.stores.now c.args.asker.now (fact_of c.in-Fact.e c.in-Fact.span) (formula_of
    c.args.x.now) (search (rules, views.the_lemmas, folds.the_lemmas)) c.exhale_fact.result c.exhale_fact.new.asker
    c.exhale_fact.ensures.halts

pub exhale-exhale_both-requires : goal.exhale-exhale_both-requires
exhale-exhale_both-requires g t c κs within =
    let K = g.K.Asker in
    let one : the_size c.get.result.now < the_size c.args.x.now = search (rules, views.the_lemmas) in
    let two : the_size c.get-in-Star.result.now < the_size c.args.x.now = search (rules, views.the_lemmas) in
    let less : 2 * max (the_size c.get.result.now) (the_size c.get-in-Star.result.now) + 1 < t = omega (
      arith,
      one,
      two,
      c.decreases,
    ) in (
      less,
      (
        search rules,
        (
          c.requires.scene,
          (
            c.requires.stores,
            conjuncts.part_may K.path K.turns K.decisions K.stands
                K.ended K.sorts c.args.own.now (give c.args.scene.now c.args.check c.args.statement) c.args.stores.now
                c.args.asker.now (star_of c.get.result.now c.get-in-Star.result.now) (formula_of c.args.x.now) (search (
                  rules,
                  views.the_lemmas,
                  folds.the_lemmas,
                )) c.requires.ready,
          ),
        ),
      ),
    )

pub exhale-returns-in-Star-clause-does : goal.exhale-returns-in-Star-clause-does
exhale-returns-in-Star-clause-does g t c =
    let K = g.K.Asker in
    conjuncts.part_done K.path K.turns K.decisions K.stands K.ended K.sorts c.args.own.now (give c.args.scene.now
    c.args.check c.args.statement) c.args.stores.now c.args.asker.now (star_of c.get.result.now c.get-in-Star.result.now)
    (formula_of c.args.x.now) (search (rules, views.the_lemmas, folds.the_lemmas)) c.exhale_both.result
    c.exhale_both.new.asker c.exhale_both.new.stores c.exhale_both.ensures.does

pub exhale-returns-in-Star-clause-halts : goal.exhale-returns-in-Star-clause-halts
exhale-returns-in-Star-clause-halts g t c =
    let K = g.K.Asker in
    conjuncts.part_stops K.path K.turns K.decisions K.stands K.ended K.sorts c.args.own.now (give c.args.scene.now
    c.args.check c.args.statement) c.args.stores.now c.args.asker.now (star_of c.get.result.now c.get-in-Star.result.now)
    (formula_of c.args.x.now) (search (rules, views.the_lemmas, folds.the_lemmas)) c.exhale_both.result
    c.exhale_both.new.asker c.exhale_both.ensures.halts

pub exhale-exhale_when-requires : goal.exhale-exhale_when-requires
exhale-exhale_when-requires g t c κs within =
    let K = g.K.Asker in
    let one : the_size c.get-in-When.result.now < the_size c.args.x.now = search (rules, views.the_lemmas) in
    let less : 2 * the_size c.get-in-When.result.now + 1 < t = omega (arith, one, c.decreases) in (
      less,
      (
        search rules,
        (
          c.requires.scene,
          (
            c.requires.stores,
            conjuncts.part_may K.path K.turns K.decisions K.stands
                K.ended K.sorts c.args.own.now (give c.args.scene.now c.args.check c.args.statement) c.args.stores.now
                c.args.asker.now (when_of c.in-When.e c.get-in-When.result.now c.in-When.span) (formula_of c.args.x.now) (search
                (rules, views.the_lemmas, folds.the_lemmas)) c.requires.ready,
          ),
        ),
      ),
    )

pub exhale-returns-in-When-clause-does : goal.exhale-returns-in-When-clause-does
exhale-returns-in-When-clause-does g t c =
    let K = g.K.Asker in
    conjuncts.part_done K.path K.turns K.decisions K.stands K.ended K.sorts c.args.own.now (give c.args.scene.now
    c.args.check c.args.statement) c.args.stores.now c.args.asker.now (when_of c.in-When.e c.get-in-When.result.now
    c.in-When.span) (formula_of c.args.x.now) (search (rules, views.the_lemmas, folds.the_lemmas)) c.exhale_when.result
    c.exhale_when.new.asker c.exhale_when.new.stores c.exhale_when.ensures.does

pub exhale-returns-in-When-clause-halts : goal.exhale-returns-in-When-clause-halts
exhale-returns-in-When-clause-halts g t c =
    let K = g.K.Asker in
    conjuncts.part_stops K.path K.turns K.decisions K.stands K.ended K.sorts c.args.own.now (give c.args.scene.now
    c.args.check c.args.statement) c.args.stores.now c.args.asker.now (when_of c.in-When.e c.get-in-When.result.now
    c.in-When.span) (formula_of c.args.x.now) (search (rules, views.the_lemmas, folds.the_lemmas)) c.exhale_when.result
    c.exhale_when.new.asker c.exhale_when.ensures.halts
