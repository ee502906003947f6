use Rattle.std.proofs.Common.{◌≡◌, ◌+◌, ◌<◌, length}
use Rattle.pv_diff.specs.Forest.{Ascent, root_at}
use Rattle.pv_diff.proofs.forest.path.Given as goal

abbrev pub invariant-loop-left : goal.invariant-loop-left
invariant-loop-left l = record {
  left : l.left < length l.nodes;
  right : l.right < length l.nodes;
  same : root_at l.nodes l.left ≡ root_at l.nodes l.right;
  up : Ascent l.nodes l.from l.left l.places.items;
  down : Ascent l.nodes l.to l.right l.back.items;
}

abbrev pub decreases-loop-left : goal.decreases-loop-left
decreases-loop-left l = l.left + l.right
