use Rattle.std.proofs.Common.{◌<◌, length, arith, refl}
use Rattle.pv_io.proofs.Partial.{stopped_failed, stopped_empty}
use Rattle.pv_io.proofs.whole.write_whole.Goals as goal

pub returns-in_err-count-clause-appends : goal.returns-in_err-count-clause-appends
returns-in_err-count-clause-appends g c =
    let left : 0 < length c.loop-rest.rest.now = grind arith in
    stopped_failed (g.W.Sink.written c.args.sink.now)
    (g.W.Sink.written c.loop-rest.sink) _ c.args.piece.now c.loop-rest.rest.now _ _
    c.loop-rest.invariant.written c.in_err-count.ensures.appends left c.from_residual.ensures.0

pub returns-then-count-eq0-clause-appends : goal.returns-then-count-eq0-clause-appends
returns-then-count-eq0-clause-appends g c =
    let left : 0 < length c.loop-rest.rest.now = grind arith in
    let appends = rw c.if-count-eq0.true at c.in_ok-count.ensures.appends in
    stopped_empty _ (g.W.Sink.written c.args.sink.now)
    (g.W.Sink.written c.loop-rest.sink) _ c.args.piece.now c.loop-rest.rest.now _
    c.loop-rest.invariant.written appends left refl
