use Rattle.std.proofs.Common.{arith}
use Rattle.std.proofs.lemmas.Grind.{common_steps}
use Rattle.pv_plain.proofs.Stating.{assign_assigned, if_assigned, while_assigned, for_assigned, par_assigned, assigns_none}
use Rattle.pv_plain.proofs.assigning.+assigned.Goals as goal

pub add_assigned-returns-in-Assign : goal.add_assigned-returns-in-Assign
add_assigned-returns-in-Assign t c = rw (assign_assigned c.args.s.now c.in-Assign.place c.in-Assign.field-1 c.in-Assign.is)
    (grind (arith, common_steps))

pub add_assigned-returns-in_ok-add_all_assigned-in-If : goal.add_assigned-returns-in_ok-add_all_assigned-in-If
add_assigned-returns-in_ok-add_all_assigned-in-If t c = rw (if_assigned c.args.s.now c.in-If.field-0 c.in-If.first
    c.in-If.second c.in-If.is)
    (grind (arith, common_steps))

pub add_assigned-returns-in-While : goal.add_assigned-returns-in-While
add_assigned-returns-in-While t c = rw (while_assigned c.args.s.now c.in-While.field-0 c.in-While.field-1 c.in-While.body
    c.in-While.is)
    (grind (arith, common_steps))

pub add_assigned-returns-in-For : goal.add_assigned-returns-in-For
add_assigned-returns-in-For t c = rw (for_assigned c.args.s.now c.in-For.field-0 c.in-For.field-1 c.in-For.body c.in-For.is)
    (grind (arith, common_steps))

pub add_assigned-returns-in-Par : goal.add_assigned-returns-in-Par
add_assigned-returns-in-Par t c = rw (par_assigned c.args.s.now c.in-Par.field-0 c.in-Par.field-1 c.in-Par.field-2
    c.in-Par.body c.in-Par.is)
    (grind (arith, common_steps))

pub add_assigned-returns-in_default : goal.add_assigned-returns-in_default
add_assigned-returns-in_default t c = rw (assigns_none c.args.s.now c.in_default.not-Assign c.in_default.not-If
    c.in_default.not-While c.in_default.not-For c.in_default.not-Par)
    (grind (arith, common_steps))
