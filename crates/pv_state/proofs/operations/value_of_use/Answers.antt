use Rattle.pv_state.proofs.Taken.{when_err}
use Rattle.pv_state.proofs.Tabled.{use_found, use_made, use_refused, use_unasked}
use Rattle.pv_state.proofs.operations.value_of_use.Goals as goal

pub returns-in_err-symbol-clause-halts : goal.returns-in_err-symbol-clause-halts
returns-in_err-symbol-clause-halts g c =
    let K = g.K.Asker in
    let f = c.in_err-symbol.ensures in
    when_err c.from_residual.result (use_unasked K.path K.turns K.decisions K.stands K.ended K.sorts c.args.asker.now
    c.find.new.asker c.args.own.now c.args.stores.now c.args.operation c.args.a c.args.b _ c.deref.ensures.value f.stops
    f.stopped f.same_sorts
    f.stopped_sorted)

pub returns-in_err-value-in-None-clause-halts : goal.returns-in_err-value-in-None-clause-halts
returns-in_err-value-in-None-clause-halts g c =
    let K = g.K.Asker in
    let f = c.in_ok-symbol.ensures in
    when_err c.from_residual-in_err-value-in-None.result (use_refused K.path K.turns K.decisions K.stands K.ended K.sorts
    c.args.asker.now c.find.new.asker c.args.own.now c.args.stores.now c.args.operation c.args.a c.args.b _
    c.deref.ensures.value f.asks f.tells f.sorted
    _ c.in-None.is f.says c.new_use.new.asker c.in_err-value-in-None.ensures.halts)

pub returns-in-Some-clause-does : goal.returns-in-Some-clause-does
returns-in-Some-clause-does g c =
    let K = g.K.Asker in
    let f = c.in_ok-symbol.ensures in
    use_found K.path K.turns K.decisions K.stands K.ended K.sorts c.args.asker.now c.find.new.asker c.args.own.now
    c.args.stores.now c.args.operation c.args.a c.args.b _ c.deref.ensures.value _ c.in-Some.symbol c.in-Some.is f.asks
    f.tells f.sorted f.says

pub returns-in_ok-value-in-None-clause-does : goal.returns-in_ok-value-in-None-clause-does
returns-in_ok-value-in-None-clause-does g c =
    let K = g.K.Asker in
    let f = c.in_ok-symbol.ensures in
    use_made K.path K.turns K.decisions K.stands K.ended K.sorts c.args.asker.now c.find.new.asker c.args.own.now
    c.args.stores.now c.args.operation c.args.a c.args.b _ c.deref.ensures.value f.asks f.tells f.sorted _ c.in-None.is
    f.says c.new_use.new.asker _
    c.in_ok-value-in-None.ensures.does
