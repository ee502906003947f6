use Rattle.std.proofs.Common.{◌+◌, ◌*◌}
use Rattle.std.specs.Prelude.{max}
use Rattle.pv_picks.proofs.plain.Expression.TheLaws.{the_size}
use Rattle.pv_state.proofs.eval.+operand.Given as goal

abbrev pub decreases-computed : goal.decreases-computed
decreases-computed g l = 2 * max (the_size l.a.now) (the_size l.b.now) + 1

abbrev pub decreases-compared : goal.decreases-compared
decreases-compared g l = 2 * max (the_size l.a.now) (the_size l.b.now) + 1

abbrev pub decreases-equal : goal.decreases-equal
decreases-equal g l = 2 * max (the_size l.a.now) (the_size l.b.now) + 1

abbrev pub decreases-both : goal.decreases-both
decreases-both g l = 2 * max (the_size l.a.now) (the_size l.b.now) + 1

abbrev pub decreases-either : goal.decreases-either
decreases-either g l = 2 * max (the_size l.a.now) (the_size l.b.now) + 1

abbrev pub decreases-implied : goal.decreases-implied
decreases-implied g l = 2 * max (the_size l.a.now) (the_size l.b.now) + 1

abbrev pub decreases-opposite : goal.decreases-opposite
decreases-opposite g l = 2 * the_size l.a.now + 1

abbrev pub decreases-operand : goal.decreases-operand
decreases-operand g l = 2 * the_size l.x.now
