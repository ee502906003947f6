use Rattle.std.proofs.Common.{sym, ◌∙◌, arith}
use Rattle.std.proofs.lemmas.Grind.{common_steps}
use Rattle.pv_plain.proofs.Stating.{if_old, while_old, for_old, par_old, barrier_old, assert_old, send_old, old_nowhere}
use Rattle.pv_plain.proofs.olds.+statement_old.Goals as goal

pub statement_old-returns-then-body_old : goal.statement_old-returns-then-body_old
statement_old-returns-then-body_old t c = rw (if_old c.args.s.now c.in-If.field-0 c.in-If.first c.in-If.second c.in-If.is)
    (grind (arith, common_steps))

pub statement_old-returns-else-body_old : goal.statement_old-returns-else-body_old
statement_old-returns-else-body_old t c = rw (if_old c.args.s.now c.in-If.field-0 c.in-If.first c.in-If.second c.in-If.is)
    (grind (arith, common_steps))

pub statement_old-returns-then-any_has_old : goal.statement_old-returns-then-any_has_old
statement_old-returns-then-any_has_old t c = rw (while_old c.args.s.now c.in-While.invariants c.in-While.field-1
    c.in-While.body c.in-While.is)
    (grind (arith, common_steps))

pub statement_old-returns-else-any_has_old : goal.statement_old-returns-else-any_has_old
statement_old-returns-else-any_has_old t c = rw (while_old c.args.s.now c.in-While.invariants c.in-While.field-1
    c.in-While.body c.in-While.is)
    (grind (arith, common_steps))

pub statement_old-returns-then-contract_old : goal.statement_old-returns-then-contract_old
statement_old-returns-then-contract_old t c = rw (for_old c.args.s.now c.in-For.field-0 c.in-For.contract c.in-For.body
    c.in-For.is)
    (grind (arith, common_steps))

pub statement_old-returns-else-contract_old : goal.statement_old-returns-else-contract_old
statement_old-returns-else-contract_old t c = rw (for_old c.args.s.now c.in-For.field-0 c.in-For.contract c.in-For.body
    c.in-For.is)
    (grind (arith, common_steps))

pub statement_old-returns-then-contract_old-2 : goal.statement_old-returns-then-contract_old-2
statement_old-returns-then-contract_old-2 t c = rw (par_old c.args.s.now c.in-Par.field-0 c.in-Par.field-1 c.in-Par.contract
    c.in-Par.body c.in-Par.is)
    (grind (arith, common_steps))

pub statement_old-returns-else-contract_old-2 : goal.statement_old-returns-else-contract_old-2
statement_old-returns-else-contract_old-2 t c = rw (par_old c.args.s.now c.in-Par.field-0 c.in-Par.field-1 c.in-Par.contract
    c.in-Par.body c.in-Par.is)
    (grind (arith, common_steps))

pub statement_old-returns-in-Barrier : goal.statement_old-returns-in-Barrier
statement_old-returns-in-Barrier t c = rw (barrier_old c.args.s.now c.in-Barrier.field-0 c.in-Barrier.contract c.in-Barrier.is)
    (grind (arith, common_steps))

pub statement_old-returns-in-Assert : goal.statement_old-returns-in-Assert
statement_old-returns-in-Assert t c = rw (assert_old c.args.s.now c.in-Assert.formula c.in-Assert.is)
    (grind (arith, common_steps))

pub statement_old-returns-in-Send : goal.statement_old-returns-in-Send
statement_old-returns-in-Send t c = rw (send_old c.args.s.now c.in-Send.field-0 c.in-Send.field-1 c.in-Send.formula c.in-Send.is)
    (grind (arith, common_steps))

pub statement_old-returns-in_default : goal.statement_old-returns-in_default
statement_old-returns-in_default t c =
    let d = c.in_default in
    sym (old_nowhere c.args.s.now d.not-If d.not-While d.not-For d.not-Par d.not-Barrier d.not-Assert d.not-Send)
