use Rattle.std.proofs.Common.{rules, arith}
use Rattle.std.proofs.lemmas.Grind.{common_steps}
use Rattle.pv_reading.proofs.Steps.{picked}
use Rattle.pv_parser.specs.Reading as reading
use Rattle.pv_parser.proofs.classes.class_end.Goals as goal

pub returns-in_err-members : goal.returns-in_err-members
unfolding reading.class_end
returns-in_err-members c =
    rw (picked _ _ _ _ _ c.in_ok-name.ensures, picked _ _ _ _ _ c.in_ok-rest.ensures, c.in_ok-inner.ensures.statements)
    (first_of (search rules, grind (arith, common_steps)))

pub returns : goal.returns
unfolding reading.class_end
returns c =
    rw (
      picked _ _ _ _ _ c.in_ok-name.ensures,
      picked _ _ _ _ _ c.in_ok-rest.ensures,
      c.in_ok-inner.ensures.statements,
      c.in_ok-members.ensures,
    ) (first_of (search rules, grind (arith, common_steps)))
