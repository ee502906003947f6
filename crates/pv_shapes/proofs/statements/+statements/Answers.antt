use Rattle.std.proofs.Common.{rules, ◌+◌, drop, arith}
use Rattle.std.proofs.lemmas.Grind.{common_steps}
use Rattle.pv_shapes.specs.Seen.{environment_as}
use Rattle.pv_shapes.proofs.Order.{first_append, first_three}
use Rattle.pv_shapes.proofs.StatementLayers.{at_assign, at_if, at_while, at_for, at_par, statement_more}
use Rattle.pv_shapes.proofs.statements.+statements.Goals as goal

pub fault_of_block-loop-statement-preserved : goal.fault_of_block-loop-statement-preserved
fault_of_block-loop-statement-preserved t c =
    grind (
      arith,
      common_steps,
      statement_more (environment_as c.args.inside) c.loop-statement.first c.statement-item.result
          (drop (c.loop-statement.statement-index + 1) c.args.block.now),
    )

pub fault_of_kind-returns-in-Assign : goal.fault_of_kind-returns-in-Assign
fault_of_kind-returns-in-Assign t c = let i = c.in-Assign in rw (i.is, at_assign i.place i.value, first_append) (search rules)

pub fault_of_kind-returns-in-If : goal.fault_of_kind-returns-in-If
fault_of_kind-returns-in-If t c = let i = c.in-If in rw (i.is, at_if i.condition i.first i.second, first_three) (search rules)

pub fault_of_kind-returns-in-While : goal.fault_of_kind-returns-in-While
fault_of_kind-returns-in-While t c =
    let i = c.in-While in rw (i.is, at_while i.invariants i.condition i.body, first_three) (search rules)

pub fault_of_kind-returns-in-For : goal.fault_of_kind-returns-in-For
fault_of_kind-returns-in-For t c = let i = c.in-For in rw (i.is, at_for i.range i.contract i.body, first_append) (search rules)

pub fault_of_kind-returns-in-Par : goal.fault_of_kind-returns-in-Par
fault_of_kind-returns-in-Par t c =
    let i = c.in-Par in rw (i.is, at_par i.field-0 i.range i.contract i.body, first_append) (search rules)
