use Rattle.std.proofs.Common.{rules, arith, [], ◌∷◌, ◌++◌, ap, ◌∙◌}
use Rattle.std.proofs.lemmas.Grind.{common_steps}
use Rattle.pv_ast.specs.declared.Member.{Member}
use Rattle.pv_tokens.specs.declared.fixed.TheConstants.{CLOSE_BRACE}
use Rattle.pv_exprs.specs.Reading.{deeper}
use Rattle.pv_reading.proofs.Turns as lists
use Rattle.pv_parser.specs.Reading.{member, deeper_blocks}
use Rattle.pv_parser.proofs.Eating.{member_eats}
use Rattle.pv_parser.proofs.members.members.Goals as goal

pub returns-in-Some : goal.returns-in-Some
returns-in-Some c =
    c.found.invariant ∙ lists.many_end CLOSE_BRACE (member (deeper c.args.room) (deeper_blocks c.args.room))
    (member_eats c.args.room) c.found.found c.found.rest.now _ _ c.in-Some.ensures

pub returns-in_err-next-in-None : goal.returns-in_err-next-in-None
returns-in_err-next-in-None c =
    rw (
      c.found.invariant,
      lists.many_next CLOSE_BRACE (member (deeper c.args.room) (deeper_blocks c.args.room))
          (member_eats c.args.room) c.found.found c.found.rest.now c.in-None.ensures,
    )
    (first_of (search rules, grind (arith, common_steps)))

pub found-smaller : goal.found-smaller
found-smaller c =
    member_eats c.args.room c.found.rest.now c.in_ok-next-in-None.next c.in_ok-next-in-None.behind.now
    c.in_ok-next-in-None.ensures

pub found-preserved : goal.found-preserved
found-preserved c =
    c.found.invariant ∙ lists.many_step CLOSE_BRACE (member (deeper c.args.room) (deeper_blocks c.args.room))
    (member_eats c.args.room) c.found.found c.found.rest.now _ c.in_ok-next-in-None.behind.now c.in_ok-next-in-None.next
    c.in-None.ensures c.in_ok-next-in-None.ensures
    (c.in_ok-push-in-None.ensures.ok ∙ ap (λ (x : Member). c.found.found ++ x ∷ []) c.into_inner.ensures)
