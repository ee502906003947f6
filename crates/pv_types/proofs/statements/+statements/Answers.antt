use Rattle.std.proofs.Common.{arith}
use Rattle.std.proofs.lemmas.Grind.{common_steps}
use Rattle.pv_types.proofs.StatementKinds.{if_kind, while_kind, for_kind, par_kind}
use Rattle.pv_types.proofs.statements.+statements.Goals as goal

pub statement_in-returns-in_ok-block-in-If-clause-found :
    goal.statement_in-returns-in_ok-block-in-If-clause-found
statement_in-returns-in_ok-block-in-If-clause-found t c =
    rw (if_kind c.args.kind.now c.in-If.condition c.in-If.first c.in-If.second c.in-If.is) (grind (arith, common_steps))

pub statement_in-returns-in_ok-condition_of-in-While-clause-found :
    goal.statement_in-returns-in_ok-condition_of-in-While-clause-found
statement_in-returns-in_ok-condition_of-in-While-clause-found t c =
    rw (while_kind c.args.kind.now c.in-While.invariants c.in-While.condition c.in-While.body c.in-While.is)
    (grind (arith, common_steps))

pub statement_in-returns-in-For-clause-found : goal.statement_in-returns-in-For-clause-found
statement_in-returns-in-For-clause-found t c =
    rw (for_kind c.args.kind.now c.in-For.range c.in-For.contract c.in-For.body c.in-For.is) (grind (arith, common_steps))

pub statement_in-returns-in-Par-clause-found : goal.statement_in-returns-in-Par-clause-found
statement_in-returns-in-Par-clause-found t c =
    rw (par_kind c.args.kind.now c.in-Par.name c.in-Par.range c.in-Par.contract c.in-Par.body c.in-Par.is)
    (grind (arith, common_steps))
