-- What is left of the pairs gives the value of them all.
use Rattle.std.proofs.Common.{◌≡◌, drop}
use Rattle.pv_picks.specs.Judge.Runs.{step_from, step_value}
use Rattle.pv_cells.proofs.prepared.step_value.Given as goal

abbrev pub invariant-loop-pair : goal.invariant-loop-pair
invariant-loop-pair l = step_from l.value (drop l.pair-index l.pairs) l.position ≡ step_value l.pairs l.position
