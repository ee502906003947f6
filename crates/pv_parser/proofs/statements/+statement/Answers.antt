use Rattle.std.proofs.Common.{rules, arith, List, [], ◌∷◌, ◌++◌, ap, ◌∙◌}
use Rattle.std.proofs.lemmas.Grind.{common_steps}
use Rattle.pv_tokens.specs.declared.fixed.TheConstants.{CLOSE_BRACE}
use Rattle.pv_exprs.specs.Reading.{deeper}
use Rattle.pv_ast.specs.declared.Expr.{Expr}
use Rattle.pv_ast.specs.declared.Stmt.{Stmt}
use Rattle.pv_reading.proofs.Steps.{picked}
use Rattle.pv_reading.proofs.Turns as lists
use Rattle.pv_parser.specs.Reading as reading
use Rattle.pv_parser.specs.Reading.{stmt, deeper_blocks}
use Rattle.pv_parser.proofs.Eating.{stmt_eats}
use Rattle.pv_parser.proofs.FirstTokens as first
use Rattle.pv_parser.proofs.statements.+statement.Goals as goal

pub statements-returns-in-Some : goal.statements-returns-in-Some
statements-returns-in-Some t c =
    c.found.invariant ∙ lists.many_end CLOSE_BRACE (stmt (deeper c.args.room) (deeper_blocks c.args.room))
    (stmt_eats c.args.room) c.found.found c.found.rest.now _ _ c.in-Some.ensures

pub statements-returns-in_err-next-in-None : goal.statements-returns-in_err-next-in-None
statements-returns-in_err-next-in-None t c =
    rw (
      c.found.invariant,
      lists.many_next CLOSE_BRACE (stmt (deeper c.args.room) (deeper_blocks c.args.room))
          (stmt_eats c.args.room) c.found.found c.found.rest.now c.in-None.ensures,
    )
    (first_of (search rules, grind (arith, common_steps)))

pub statements-found-smaller : goal.statements-found-smaller
statements-found-smaller t c =
    stmt_eats c.args.room c.found.rest.now c.in_ok-next-in-None.next c.in_ok-next-in-None.behind.now c.in_ok-next-in-None.ensures

pub statements-found-preserved : goal.statements-found-preserved
statements-found-preserved t c =
    c.found.invariant ∙ lists.many_step CLOSE_BRACE (stmt (deeper c.args.room) (deeper_blocks c.args.room))
    (stmt_eats c.args.room) c.found.found c.found.rest.now _ c.in_ok-next-in-None.behind.now c.in_ok-next-in-None.next
    c.in-None.ensures c.in_ok-next-in-None.ensures
    (c.in_ok-push-in-None.ensures.ok ∙ ap (λ (s : Stmt). c.found.found ++ s ∷ []) c.into_inner.ensures)

pub counted-returns-in_err-body : goal.counted-returns-in_err-body
unfolding reading.counted
counted-returns-in_err-body t c =
    rw (c.in_ok-range.ensures, ← c.new.ensures, c.in_ok-clauses.ensures) (first_of (search rules, grind (arith, common_steps)))

pub counted-returns : goal.counted-returns
unfolding reading.counted
counted-returns t c =
    rw (c.in_ok-range.ensures, ← c.new.ensures, c.in_ok-clauses.ensures, c.in_ok-body.ensures)
    (first_of (search rules, grind (arith, common_steps)))

pub parallel_end-returns-in_err-body : goal.parallel_end-returns-in_err-body
unfolding reading.parallel_end
parallel_end-returns-in_err-body t c =
    rw (c.in_ok-range.ensures, ← c.new.ensures, c.in_ok-clauses.ensures) (first_of (search rules, grind (arith, common_steps)))

pub parallel_end-returns : goal.parallel_end-returns
unfolding reading.parallel_end
parallel_end-returns t c =
    rw (c.in_ok-range.ensures, ← c.new.ensures, c.in_ok-clauses.ensures, c.in_ok-body.ensures)
    (first_of (search rules, grind (arith, common_steps)))

pub invariant_loop-returns : goal.invariant_loop-returns
unfolding reading.invariant_loop
invariant_loop-returns t c =
    let all = c.in_ok-push.ensures.ok ∙ ap (λ (z : List Expr). z ++ c.into_inner.result ∷ []) c.new-found.ensures
    ∙ ap (λ (e : Expr). [] ++ e ∷ []) c.into_inner.ensures in
    rw (c.in_ok-formula.ensures, ← all, c.in_ok-invariants.ensures, picked _ _ _ _ _ c.in_ok-rest.ensures)
    (first_of (search rules, grind (arith, common_steps)))

-- a statement by its first token

pub statement-returns-in-None : goal.statement-returns-in-None
statement-returns-in-None t c =
    first.none_first (deeper c.args.room) (deeper_blocks c.args.room) c.args.tokens.now c.in-None.ensures

pub statement-returns-in-Number : goal.statement-returns-in-Number
statement-returns-in-Number t c =
    first.number_first (deeper c.args.room) (deeper_blocks c.args.room) _ _ _ _ c.in-Some.ensures c.in-Number.is

pub statement-returns-in-Named : goal.statement-returns-in-Named
statement-returns-in-Named t c =
    rw (first.name_first (deeper c.args.room) (deeper_blocks c.args.room) _ _ _ _ c.in-Some.ensures c.in-Named.is)
    c.name_statement.ensures

pub statement-returns-in-30 : goal.statement-returns-in-30
statement-returns-in-30 t c =
    rw (first.this_first (deeper c.args.room) (deeper_blocks c.args.room) _ _ _ _ c.in-Some.ensures c.in-Fixed.is c.in-30.is)
    c.this_statement.ensures

pub statement-returns-in-1 : goal.statement-returns-in-1
statement-returns-in-1 t c =
    rw (first.int_first (deeper c.args.room) (deeper_blocks c.args.room) _ _ _ _ c.in-Some.ensures c.in-Fixed.is c.in-1.is)
    c.local.ensures

pub statement-returns-in-2 : goal.statement-returns-in-2
statement-returns-in-2 t c =
    rw (first.boolean_first (deeper c.args.room) (deeper_blocks c.args.room) _ _ _ _ c.in-Some.ensures c.in-Fixed.is c.in-2.is)
    c.local-in-2.ensures

pub statement-returns-in-3 : goal.statement-returns-in-3
statement-returns-in-3 t c =
    rw (first.bool_first (deeper c.args.room) (deeper_blocks c.args.room) _ _ _ _ c.in-Some.ensures c.in-Fixed.is c.in-3.is)
    c.local-in-3.ensures

pub statement-returns-in-11 : goal.statement-returns-in-11
statement-returns-in-11 t c =
    rw (first.if_first (deeper c.args.room) (deeper_blocks c.args.room) _ _ _ _ c.in-Some.ensures c.in-Fixed.is c.in-11.is)
    c.choice.ensures

pub statement-returns-in-13 : goal.statement-returns-in-13
statement-returns-in-13 t c =
    rw (first.while_first (deeper c.args.room) (deeper_blocks c.args.room) _ _ _ _ c.in-Some.ensures c.in-Fixed.is c.in-13.is)
    (rw c.new.ensures at c.while_end.ensures)

pub statement-returns-in-9 : goal.statement-returns-in-9
statement-returns-in-9 t c =
    rw (first.loop_invariant_first (deeper c.args.room)
    (deeper_blocks c.args.room) _ _ _ _ c.in-Some.ensures c.in-Fixed.is c.in-9.is)
    c.invariant_loop.ensures

pub statement-returns-in-14 : goal.statement-returns-in-14
statement-returns-in-14 t c =
    rw (first.for_first (deeper c.args.room) (deeper_blocks c.args.room) _ _ _ _ c.in-Some.ensures c.in-Fixed.is c.in-14.is)
    c.counted.ensures

pub statement-returns-in-15 : goal.statement-returns-in-15
statement-returns-in-15 t c =
    rw (first.par_first (deeper c.args.room) (deeper_blocks c.args.room) _ _ _ _ c.in-Some.ensures c.in-Fixed.is c.in-15.is)
    c.parallel.ensures

pub statement-returns-in-16 : goal.statement-returns-in-16
statement-returns-in-16 t c =
    rw (first.barrier_first (deeper c.args.room) (deeper_blocks c.args.room) _ _ _ _ c.in-Some.ensures c.in-Fixed.is c.in-16.is)
    c.barrier.ensures

pub statement-returns-in-17 : goal.statement-returns-in-17
statement-returns-in-17 t c =
    rw (first.fork_first (deeper c.args.room) (deeper_blocks c.args.room) _ _ _ _ c.in-Some.ensures c.in-Fixed.is c.in-17.is)
    c.action.ensures

pub statement-returns-in-18 : goal.statement-returns-in-18
statement-returns-in-18 t c =
    rw (first.join_first (deeper c.args.room) (deeper_blocks c.args.room) _ _ _ _ c.in-Some.ensures c.in-Fixed.is c.in-18.is)
    c.action-in-18.ensures

pub statement-returns-in-19 : goal.statement-returns-in-19
statement-returns-in-19 t c =
    rw (first.lock_first (deeper c.args.room) (deeper_blocks c.args.room) _ _ _ _ c.in-Some.ensures c.in-Fixed.is c.in-19.is)
    c.action-in-19.ensures

pub statement-returns-in-20 : goal.statement-returns-in-20
statement-returns-in-20 t c =
    rw (first.unlock_first (deeper c.args.room) (deeper_blocks c.args.room) _ _ _ _ c.in-Some.ensures c.in-Fixed.is c.in-20.is)
    c.action-in-20.ensures

pub statement-returns-in-21 : goal.statement-returns-in-21
statement-returns-in-21 t c =
    rw (first.commit_first (deeper c.args.room) (deeper_blocks c.args.room) _ _ _ _ c.in-Some.ensures c.in-Fixed.is c.in-21.is)
    c.action-in-21.ensures

pub statement-returns-in-22 : goal.statement-returns-in-22
statement-returns-in-22 t c =
    rw (first.fold_first (deeper c.args.room) (deeper_blocks c.args.room) _ _ _ _ c.in-Some.ensures c.in-Fixed.is c.in-22.is)
    c.folding.ensures

pub statement-returns-in-23 : goal.statement-returns-in-23
statement-returns-in-23 t c =
    rw (first.unfold_first (deeper c.args.room) (deeper_blocks c.args.room) _ _ _ _ c.in-Some.ensures c.in-Fixed.is c.in-23.is)
    c.folding-in-23.ensures

pub statement-returns-in-24 : goal.statement-returns-in-24
statement-returns-in-24 t c =
    rw (first.assert_first (deeper c.args.room) (deeper_blocks c.args.room) _ _ _ _ c.in-Some.ensures c.in-Fixed.is c.in-24.is)
    c.assertion.ensures

pub statement-returns-in-25 : goal.statement-returns-in-25
statement-returns-in-25 t c =
    rw (first.send_first (deeper c.args.room) (deeper_blocks c.args.room) _ _ _ _ c.in-Some.ensures c.in-Fixed.is c.in-25.is)
    c.send.ensures

pub statement-returns-in-26 : goal.statement-returns-in-26
statement-returns-in-26 t c =
    rw (first.recv_first (deeper c.args.room) (deeper_blocks c.args.room) _ _ _ _ c.in-Some.ensures c.in-Fixed.is c.in-26.is)
    c.recv.ensures

pub statement-returns-in-27 : goal.statement-returns-in-27
statement-returns-in-27 t c =
    rw (first.return_first (deeper c.args.room) (deeper_blocks c.args.room) _ _ _ _ c.in-Some.ensures c.in-Fixed.is c.in-27.is)
    c.returned.ensures

pub statement-returns-in_default : goal.statement-returns-in_default
statement-returns-in_default t c =
    let n = c.in-Fixed.number in
    first.other_first (deeper c.args.room) (deeper_blocks c.args.room) _ _ _ _ c.in-Some.ensures c.in-Fixed.is
    (first_of (search rules, grind (arith, common_steps)))
