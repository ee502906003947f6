use Rattle.std.proofs.Common.{◌+◌, ◌*◌}
use Rattle.std.specs.Prelude.{max}
use Rattle.pv_picks.proofs.plain.Formula.TheLaws.{the_size}
use Rattle.pv_state.proofs.formulas.+inhale.Given as goal

abbrev pub decreases-inhale : goal.decreases-inhale
decreases-inhale g l = 2 * the_size l.x.now

abbrev pub decreases-inhale_both : goal.decreases-inhale_both
decreases-inhale_both g l = 2 * max (the_size l.a.now) (the_size l.b.now) + 1

abbrev pub decreases-inhale_when : goal.decreases-inhale_when
decreases-inhale_when g l = 2 * the_size l.body.now + 1
