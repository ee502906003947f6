use Rattle.std.proofs.Common.{rules, arith, [], ◌∷◌, ◌++◌, ap, ◌∙◌}
use Rattle.std.proofs.lemmas.Grind.{common_steps}
use Rattle.pv_ast.specs.declared.Expr.{Expr}
use Rattle.pv_parser.proofs.Turns as turns
use Rattle.pv_parser.proofs.lines.invariants.Goals as goal

pub returns-in_err-next-in-Some : goal.returns-in_err-next-in-Some
returns-in_err-next-in-Some c =
    rw (c.found.invariant, turns.invariants_next c.args.room c.found.rest.now _ _ c.in-Some.ensures c.found.all)
    (first_of (search rules, grind (arith, common_steps)))

pub found-smaller : goal.found-smaller
found-smaller c =
    turns.invariants_smaller c.args.room c.found.rest.now _ _ c.in-Some.ensures c.in_ok-next-in-Some.behind.now
    c.in_ok-next-in-Some.next c.in_ok-next-in-Some.ensures

pub found-preserved : goal.found-preserved
found-preserved c =
    c.found.invariant ∙ turns.invariants_step c.args.room c.found.rest.now _ _ c.in-Some.ensures c.found.all _
    c.in_ok-next-in-Some.behind.now c.in_ok-next-in-Some.next c.in_ok-next-in-Some.ensures
    (c.in_ok-push-in-Some.ensures.ok ∙ ap (λ (e : Expr). c.found.all ++ e ∷ []) c.into_inner.ensures)

pub returns-in-None : goal.returns-in-None
returns-in-None c = c.found.invariant ∙ turns.invariants_end c.args.room c.found.all c.found.rest.now c.in-None.ensures
