use Rattle.pv_state.proofs.Taken.{when_err}
use Rattle.pv_state.proofs.Operating.{term_made, does_used, halts_used, does_plain}
use Rattle.pv_state.proofs.operands.compute.Goals as goal

pub value_of_use-requires-clause-a : goal.value_of_use-requires-clause-a
value_of_use-requires-clause-a g c = c.in_ok-l.ensures.made (g.K.Asker.sorts c.args.asker.now) c.requires.a

pub value_of_use-requires-clause-b : goal.value_of_use-requires-clause-b
value_of_use-requires-clause-b g c = c.in_ok-r.ensures.made (g.K.Asker.sorts c.args.asker.now) c.requires.b

pub returns-in_err-t-in-Tabled-clause-halts : goal.returns-in_err-t-in-Tabled-clause-halts
returns-in_err-t-in-Tabled-clause-halts g c =
    let K = g.K.Asker in
    rw c.in-Tabled.is (when_err c.from_residual-in_err-t-in-Tabled.result (halts_used K.path K.turns K.decisions K.stands
    K.ended K.sorts
    c.args.own.now c.args.stores.now c.args.operation c.args.a c.args.b c.args.span c.in_ok-l.l c.in_ok-r.r
    c.in_ok-l.ensures.value c.in_ok-r.ensures.value c.args.asker.now c.value_of_use.new.asker
    c.in_err-t-in-Tabled.ensures.halts))

pub returns-in_ok-x-in-Plain-clause-does : goal.returns-in_ok-x-in-Plain-clause-does
returns-in_ok-x-in-Plain-clause-does g c =
    let K = g.K.Asker in
    rw c.in-Plain.is (does_plain K.path K.turns K.decisions K.stands K.ended K.sorts c.args.own.now c.args.stores.now
    c.args.operation c.args.a
    c.args.b c.args.span c.in_ok-l.l c.in_ok-r.r c.in_ok-l.ensures.value c.in_ok-r.ensures.value c.args.asker.now
    c.in_ok-x-in-Plain.x c.in_ok-x-in-Plain.ensures.value)

pub returns-in_ok-t-in-Tabled-clause-does : goal.returns-in_ok-t-in-Tabled-clause-does
returns-in_ok-t-in-Tabled-clause-does g c =
    let K = g.K.Asker in
    rw c.in-Tabled.is (does_used K.path K.turns K.decisions K.stands K.ended K.sorts c.args.own.now c.args.stores.now
    c.args.operation c.args.a
    c.args.b c.args.span c.in_ok-l.l c.in_ok-r.r c.in_ok-l.ensures.value c.in_ok-r.ensures.value c.args.asker.now
    c.value_of_use.new.asker c.value_of_use.new.stores c.in_ok-t-in-Tabled.t c.in_ok-t-in-Tabled.ensures.does)

pub returns-in_ok-t-in-Tabled-clause-made : goal.returns-in_ok-t-in-Tabled-clause-made
returns-in_ok-t-in-Tabled-clause-made g c = term_made (g.K.Asker.sorts c.value_of_use.new.asker) c.in_ok-t-in-Tabled.t
    c.in_ok-t-in-Tabled.ensures.made c.in_ok-t-in-Tabled.ensures.size
