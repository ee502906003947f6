use Rattle.std.proofs.Common.{rules, arith}
use Rattle.std.proofs.lemmas.Grind.{common_steps}
use Rattle.pv_reading.proofs.Steps.{picked}
use Rattle.pv_parser.specs.Reading as reading
use Rattle.pv_parser.proofs.classes.class_from.Goals as goal

pub returns-in_ok-rest : goal.returns-in_ok-rest
unfolding reading.class_from
returns-in_ok-rest c =
    rw (c.if-locks.true, c.in_ok-formula.ensures, picked _ _ _ _ _ c.in_ok-rest.ensures)
    (first_of (search rules, grind (arith, common_steps)))
