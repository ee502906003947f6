use Rattle.std.proofs.Common.{rules, arith}
use Rattle.std.proofs.lemmas.Grind.{common_steps}
use Rattle.pv_reading.proofs.Steps.{picked}
use Rattle.pv_parser.specs.Reading as reading
use Rattle.pv_parser.proofs.lines.send.Goals as goal

pub returns : goal.returns
unfolding reading.send
returns c =
    rw (
      picked _ _ _ _ _ c.in_ok-label.ensures,
      picked _ _ _ _ _ c.in_ok-rest.ensures,
      picked _ _ _ _ _ c.in_ok-distance.ensures,
      picked _ _ _ _ _ c.in_ok-rest-2.ensures,
      c.in_ok-message.ensures,
    ) (first_of (search rules, grind (arith, common_steps)))
