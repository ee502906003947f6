use Rattle.std.proofs.Common.{rules, arith}
use Rattle.std.proofs.lemmas.Grind.{common_steps}
use Rattle.pv_reading.proofs.Steps.{picked, passed}
use Rattle.pv_parser.specs.Reading as reading
use Rattle.pv_parser.proofs.lines.barrier.Goals as goal

pub returns-in_err-clauses : goal.returns-in_err-clauses
unfolding reading.barrier
returns-in_err-clauses c =
    rw (
      picked _ _ _ _ _ c.in_ok-rest.ensures,
      c.in_ok-inside.ensures.readers,
      picked _ _ _ _ _ c.in_ok-label.ensures,
      picked _ _ _ _ _ c.in_ok-rest-2.ensures,
      picked _ _ _ _ _ c.in_ok-rest-3.ensures,
      c.in_ok-inner.ensures.statements,
      ← c.new.ensures,
    ) (first_of (search rules, grind (arith, common_steps)))

pub returns-in_err-last : goal.returns-in_err-last
unfolding reading.barrier
returns-in_err-last c =
    rw (
      picked _ _ _ _ _ c.in_ok-rest.ensures,
      c.in_ok-inside.ensures.readers,
      picked _ _ _ _ _ c.in_ok-label.ensures,
      picked _ _ _ _ _ c.in_ok-rest-2.ensures,
      picked _ _ _ _ _ c.in_ok-rest-3.ensures,
      c.in_ok-inner.ensures.statements,
      ← c.new.ensures,
      c.in_ok-clauses.ensures,
      passed _ _ c.in_err-last.ensures.1,
    )
    (first_of (search rules, grind (arith, common_steps)))

pub returns : goal.returns
unfolding reading.barrier
returns c =
    rw (
      picked _ _ _ _ _ c.in_ok-rest.ensures,
      c.in_ok-inside.ensures.readers,
      picked _ _ _ _ _ c.in_ok-label.ensures,
      picked _ _ _ _ _ c.in_ok-rest-2.ensures,
      picked _ _ _ _ _ c.in_ok-rest-3.ensures,
      c.in_ok-inner.ensures.statements,
      ← c.new.ensures,
      c.in_ok-clauses.ensures,
      picked _ _ _ _ _ c.in_ok-last.ensures,
    )
    (first_of (search rules, grind (arith, common_steps)))
