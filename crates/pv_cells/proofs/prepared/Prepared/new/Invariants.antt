-- What was found, with what is left, are all of them.
use Rattle.std.proofs.Common.{◌≡◌, drop, map, ◌++◌}
use Rattle.pv_cells.specs.Prepared.{step_maps}
use Rattle.pv_cells.proofs.prepared.Prepared.new.Given as goal

abbrev pub invariant-loop-pick : goal.invariant-loop-pick
invariant-loop-pick l = map (λ m. m.now) l.maps.items ++ step_maps (drop l.pick-index l.pick-items) ≡ step_maps l.evidence.picks
