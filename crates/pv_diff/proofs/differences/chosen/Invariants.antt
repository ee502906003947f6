use Rattle.std.proofs.Common.{◌≡◌, take, map, slice_index_or}
use Rattle.pv_diff.proofs.differences.chosen.Given as goal

abbrev pub invariant-loop-place : goal.invariant-loop-place
invariant-loop-place l = l.chosen.items ≡ map (λ k. slice_index_or l.list k 0) (take l.place-index l.place-items)
