use Rattle.std.proofs.Common.{rules}
use Rattle.pv_reading.proofs.Steps.{picked}
use Rattle.pv_parser.specs.Reading as reading
use Rattle.pv_parser.proofs.parts.condition.Goals as goal

pub returns : goal.returns
unfolding reading.condition
returns c =
    rw (
      picked _ _ _ _ _ c.in_ok-rest.ensures,
      c.in_ok-inner.ensures.readers,
      c.in_ok-condition.ensures,
      picked _ _ _ _ _ c.in_ok-rest-2.ensures,
    ) (search rules)
