use Rattle.std.proofs.Common.{sym, ◌∙◌, arith, ◌≤◌, length}
use Rattle.pv_plain.specs.Clauses.{stands}
use Rattle.pv_plain.specs.Sights.{around, in_scope}
use Rattle.pv_plain.proofs.Gathering.{items_next, items_end}
use Rattle.pv_plain.proofs.contracts.item_condition.Goals as goal

pub loop-clause-preserved : goal.loop-clause-preserved
loop-clause-preserved c =
    items_next c.args.name (around c.args.sight) (in_scope c.args.sight) (stands c.args.before) c.args.clauses.now
    c.loop-clause.clause-index c.clause-item.result c.loop-clause.all c.in_ok-each.each c.append.new.self
    c.loop-clause-test.true c.clause-item.is c.in_ok-each.ensures c.in_ok-append.ensures
    ∙ c.loop-clause.invariant

pub returns : goal.returns
returns c =
    let done : length c.args.clauses.now ≤ c.loop-clause.clause-index = omega (arith, c.loop-clause-test.false) in
    sym (items_end c.args.name (around c.args.sight) (in_scope c.args.sight) (stands c.args.before) c.args.clauses.now
    c.loop-clause.clause-index c.loop-clause.all done)
    ∙ c.loop-clause.invariant
