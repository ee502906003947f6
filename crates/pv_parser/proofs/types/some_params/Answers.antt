use Rattle.std.proofs.Common.{rules, arith, ◌∙◌}
use Rattle.std.proofs.lemmas.Grind.{common_steps}
use Rattle.pv_tokens.specs.declared.fixed.TheConstants.{COMMA, CLOSE_PAREN}
use Rattle.pv_exprs.specs.Reading.{deeper}
use Rattle.pv_reading.proofs.Turns as lists
use Rattle.pv_parser.specs.Reading.{param}
use Rattle.pv_parser.proofs.Eating.{param_keeps}
use Rattle.pv_parser.proofs.types.some_params.Goals as goal

pub returns-in_err-next : goal.returns-in_err-next
returns-in_err-next c =
    rw (
      c.found.invariant,
      lists.series_first COMMA CLOSE_PAREN (param (deeper c.args.room))
          (param_keeps c.args.room) c.found.found c.found.rest.now,
    ) (first_of (search rules, grind (arith, common_steps)))

pub found-smaller : goal.found-smaller
found-smaller c =
    lists.series_smaller COMMA CLOSE_PAREN (param (deeper c.args.room))
    (param_keeps c.args.room) c.found.found c.found.rest.now _ _ c.in_ok-next.next _ c.in_ok-next.ensures c.in-Some.ensures

pub found-preserved : goal.found-preserved
found-preserved c =
    c.found.invariant ∙ lists.series_step COMMA CLOSE_PAREN (param (deeper c.args.room))
    (param_keeps c.args.room) c.found.found c.found.rest.now _ c.in_ok-next.next _ c.in_ok-next.ensures c.in_ok-push.ensures.ok _
    _ c.in-Some.ensures

pub returns-in_err-last-in-None : goal.returns-in_err-last-in-None
returns-in_err-last-in-None c =
    rw (
      c.found.invariant,
      lists.series_open COMMA CLOSE_PAREN (param (deeper c.args.room))
          (param_keeps c.args.room) c.found.found c.found.rest.now _ c.in_ok-next.next _ c.in_ok-next.ensures
          c.in_ok-push.ensures.ok
          c.in-None.ensures c.in_err-last-in-None.ensures.1,
    ) (first_of (search rules, grind (arith, common_steps)))

pub returns-in-None : goal.returns-in-None
returns-in-None c =
    c.found.invariant ∙ lists.series_end COMMA CLOSE_PAREN (param (deeper c.args.room))
    (param_keeps c.args.room) c.found.found c.found.rest.now _ c.in_ok-next.next _ c.in_ok-next.ensures c.in_ok-push.ensures.ok _
    _ c.in-None.ensures c.in_ok-last-in-None.ensures
