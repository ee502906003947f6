use Rattle.std.proofs.Common.{◌∙◌}
use Rattle.pv_state.proofs.Taken.{when_err}
use Rattle.pv_state.proofs.Sums.{sides_told, ordered_tells, ordered_stops}
use Rattle.pv_state.proofs.operands.compare_operands.Goals as goal

pub compare-requires-clause-first : goal.compare-requires-clause-first
compare-requires-clause-first g c = c.in_ok-l.ensures.first (g.K.Asker.sorts c.args.asker.now) c.requires.first c.requires.second

pub compare-requires-clause-second : goal.compare-requires-clause-second
compare-requires-clause-second g c = c.in_ok-l.ensures.second (g.K.Asker.sorts c.args.asker.now) c.requires.first
    c.requires.second

pub returns-in_err-told-clause-stopped : goal.returns-in_err-told-clause-stopped
returns-in_err-told-clause-stopped g c =
    let K = g.K.Asker in
    when_err c.from_residual-in_err-told.result (ordered_stops c.args.a c.args.b c.in_ok-l.l c.in_ok-l.r c.in_ok-l.ensures.value
    K.path K.turns K.decisions K.sorts c.args.asker.now c.compare.new.asker c.in_err-told.ensures.stopped)

pub returns-clause-says : goal.returns-clause-says
returns-clause-says g c e f = c.in_ok-told.ensures.says e f
    ∙ sides_told c.args.a c.args.b c.in_ok-l.l c.in_ok-l.r c.in_ok-l.ensures.value c.args.order e.values

pub returns-clause-tells : goal.returns-clause-tells
returns-clause-tells g c =
    let K = g.K.Asker in
    ordered_tells c.args.a c.args.b c.in_ok-l.l c.in_ok-l.r c.in_ok-l.ensures.value K.path K.turns K.decisions K.sorts
    c.args.asker.now c.compare.new.asker c.in_ok-told.ensures.tells
