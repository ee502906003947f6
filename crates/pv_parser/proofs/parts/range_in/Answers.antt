use Rattle.std.proofs.Common.{rules, arith}
use Rattle.std.proofs.lemmas.Grind.{common_steps}
use Rattle.pv_reading.proofs.Steps.{picked, passed}
use Rattle.pv_parser.specs.Reading as reading
use Rattle.pv_parser.proofs.parts.range_in.Goals as goal

pub returns-in_err-rest-3 : goal.returns-in_err-rest-3
unfolding reading.range_in
returns-in_err-rest-3 c =
    rw (
      picked _ _ _ _ _ c.in_ok-rest.ensures,
      picked _ _ _ _ _ c.in_ok-name.ensures,
      picked _ _ _ _ _ c.in_ok-rest-2.ensures,
      c.in_ok-low.ensures,
      passed _ _ c.in_err-rest-3.ensures.1,
    ) (first_of (search rules, grind (arith, common_steps)))

pub returns-in_err-high : goal.returns-in_err-high
unfolding reading.range_in
returns-in_err-high c =
    rw (
      picked _ _ _ _ _ c.in_ok-rest.ensures,
      picked _ _ _ _ _ c.in_ok-name.ensures,
      picked _ _ _ _ _ c.in_ok-rest-2.ensures,
      c.in_ok-low.ensures,
      picked _ _ _ _ _ c.in_ok-rest-3.ensures,
    ) (first_of (search rules, grind (arith, common_steps)))

pub returns-in_err-rest-4 : goal.returns-in_err-rest-4
unfolding reading.range_in
returns-in_err-rest-4 c =
    rw (
      picked _ _ _ _ _ c.in_ok-rest.ensures,
      picked _ _ _ _ _ c.in_ok-name.ensures,
      picked _ _ _ _ _ c.in_ok-rest-2.ensures,
      c.in_ok-low.ensures,
      picked _ _ _ _ _ c.in_ok-rest-3.ensures,
      c.in_ok-high.ensures,
      passed _ _ c.in_err-rest-4.ensures.1,
    )
    (first_of (search rules, grind (arith, common_steps)))

pub returns : goal.returns
unfolding reading.range_in
returns c =
    rw (
      picked _ _ _ _ _ c.in_ok-rest.ensures,
      picked _ _ _ _ _ c.in_ok-name.ensures,
      picked _ _ _ _ _ c.in_ok-rest-2.ensures,
      c.in_ok-low.ensures,
      picked _ _ _ _ _ c.in_ok-rest-3.ensures,
      c.in_ok-high.ensures,
      picked _ _ _ _ _ c.in_ok-rest-4.ensures,
    )
    (first_of (search rules, grind (arith, common_steps)))
