use Rattle.std.proofs.Common.{◌+◌, ◌*◌}
use Rattle.std.specs.Prelude.{max}
use Rattle.pv_picks.proofs.plain.Formula.TheLaws.{the_size}
use Rattle.pv_state.proofs.formulas.+exhale.Given as goal

abbrev pub decreases-exhale : goal.decreases-exhale
decreases-exhale g l = 2 * the_size l.x.now

abbrev pub decreases-exhale_both : goal.decreases-exhale_both
decreases-exhale_both g l = 2 * max (the_size l.a.now) (the_size l.b.now) + 1

abbrev pub decreases-exhale_when : goal.decreases-exhale_when
decreases-exhale_when g l = 2 * the_size l.body.now + 1
