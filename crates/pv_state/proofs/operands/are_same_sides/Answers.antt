use Rattle.std.proofs.Common.{◌∙◌, rules}
use Rattle.pv_state.proofs.Taken.{when_err}
use Rattle.pv_state.proofs.Sums.{Numbers, sides_same, shown_tells, shown_stops}
use Rattle.pv_state.proofs.operands.are_same_sides.Goals as goal

pub are_same_numbers-requires-clause-first : goal.are_same_numbers-requires-clause-first
are_same_numbers-requires-clause-first g c =
    c.in_ok-l.ensures.first (g.K.Asker.sorts c.args.asker.now) c.requires.first c.requires.second

pub are_same_numbers-requires-clause-second : goal.are_same_numbers-requires-clause-second
are_same_numbers-requires-clause-second g c =
    c.in_ok-l.ensures.second (g.K.Asker.sorts c.args.asker.now) c.requires.first c.requires.second

pub returns-in_err-told-clause-stopped : goal.returns-in_err-told-clause-stopped
returns-in_err-told-clause-stopped g c =
    let K = g.K.Asker in
    let a = c.args.a in
    let b = c.args.b in
    let l = c.in_ok-l in
    let are : Numbers a b l.l l.r l.ensures.value = (
      c.is_number.ensures.number (search (rules, c.if-not-is_number.false)),
      c.is_number-else-not-is_number.ensures.number (search (rules, c.if-not-is_number-2.false)),
    ) in
    when_err c.from_residual-in_err-told.result (shown_stops a b l.l l.r l.ensures.value K.path K.turns K.decisions K.sorts
    c.args.asker.now c.are_same_numbers.new.asker are c.in_err-told.ensures.stopped)

pub returns-clause-says : goal.returns-clause-says
returns-clause-says g c e f =
    let a = c.args.a in
    let b = c.args.b in
    let l = c.in_ok-l in
    let are : Numbers a b l.l l.r l.ensures.value = (
      c.is_number.ensures.number (search (rules, c.if-not-is_number.false)),
      c.is_number-else-not-is_number.ensures.number (search (rules, c.if-not-is_number-2.false)),
    ) in
    c.in_ok-told.ensures.says e f ∙ sides_same a b l.l l.r l.ensures.value are e.values

pub returns-clause-tells : goal.returns-clause-tells
returns-clause-tells g c =
    let K = g.K.Asker in
    let a = c.args.a in
    let b = c.args.b in
    let l = c.in_ok-l in
    let are : Numbers a b l.l l.r l.ensures.value = (
      c.is_number.ensures.number (search (rules, c.if-not-is_number.false)),
      c.is_number-else-not-is_number.ensures.number (search (rules, c.if-not-is_number-2.false)),
    ) in
    shown_tells a b l.l l.r l.ensures.value K.path K.turns K.decisions K.sorts c.args.asker.now c.are_same_numbers.new.asker are
    c.in_ok-told.ensures.tells
