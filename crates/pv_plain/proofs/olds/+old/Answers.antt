use Rattle.std.proofs.Common.{arith}
use Rattle.std.proofs.lemmas.Grind.{common_steps}
use Rattle.pv_plain.proofs.Oldness.{instance_old}
use Rattle.pv_plain.proofs.olds.+old.Goals as goal

pub has_old_in-returns-else-has_old_in_target : goal.has_old_in-returns-else-has_old_in_target
has_old_in-returns-else-has_old_in_target t c =
    rw (instance_old c.args.kind.now c.in-Instance.target c.in-Instance.field-1 c.in-Instance.args c.in-Instance.is)
    (grind (arith, common_steps))
