-- How deep the expressions are, with a step between one and its parts.
use Rattle.std.proofs.Common.{◌+◌, ◌*◌}
use Rattle.std.specs.Prelude.{max}
use Rattle.pv_picks.specs.declared.plain.Expression.{size-Expression}
use Rattle.pv_cells.proofs.value.+value.Given as goal

abbrev pub decreases-value : goal.decreases-value
decreases-value l = 2 * size-Expression l.e.now

abbrev pub decreases-field : goal.decreases-field
decreases-field l = 2 * size-Expression l.object.now + 1

abbrev pub decreases-measured : goal.decreases-measured
decreases-measured l = 2 * size-Expression l.array.now + 1

abbrev pub decreases-opposite : goal.decreases-opposite
decreases-opposite l = 2 * size-Expression l.a.now + 1

abbrev pub decreases-before : goal.decreases-before
decreases-before l = 2 * size-Expression l.a.now + 1

abbrev pub decreases-element : goal.decreases-element
decreases-element l = 2 * max (size-Expression l.array.now) (size-Expression l.index.now) + 1

abbrev pub decreases-computed : goal.decreases-computed
decreases-computed l = 2 * max (size-Expression l.a.now) (size-Expression l.b.now) + 1

abbrev pub decreases-compared : goal.decreases-compared
decreases-compared l = 2 * max (size-Expression l.a.now) (size-Expression l.b.now) + 1

abbrev pub decreases-equated : goal.decreases-equated
decreases-equated l = 2 * max (size-Expression l.a.now) (size-Expression l.b.now) + 1

abbrev pub decreases-both : goal.decreases-both
decreases-both l = 2 * max (size-Expression l.a.now) (size-Expression l.b.now) + 1

abbrev pub decreases-either : goal.decreases-either
decreases-either l = 2 * max (size-Expression l.a.now) (size-Expression l.b.now) + 1

abbrev pub decreases-implied : goal.decreases-implied
decreases-implied l = 2 * max (size-Expression l.a.now) (size-Expression l.b.now) + 1
