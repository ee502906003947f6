use Rattle.std.proofs.Common.{rules, arith}
use Rattle.std.proofs.lemmas.Grind.{common_steps}
use Rattle.pv_reading.proofs.Steps.{picked}
use Rattle.pv_parser.specs.Reading as reading
use Rattle.pv_parser.proofs.members.predicate.Goals as goal

pub returns-in_err-body : goal.returns-in_err-body
unfolding reading.predicate
returns-in_err-body c =
    rw (picked _ _ _ _ _ c.in_ok-name.ensures, c.in_ok-params.ensures, picked _ _ _ _ _ c.in_ok-rest.ensures)
    (first_of (search rules, grind (arith, common_steps)))

pub returns : goal.returns
unfolding reading.predicate
returns c =
    rw (
      picked _ _ _ _ _ c.in_ok-name.ensures,
      c.in_ok-params.ensures,
      picked _ _ _ _ _ c.in_ok-rest.ensures,
      c.in_ok-body.ensures,
    ) (first_of (search rules, grind (arith, common_steps)))
