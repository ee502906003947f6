use Rattle.std.proofs.Common.{◌≡◌, ℕ, ◌<◌, length}
use Rattle.pv_diff.specs.Forest.{IsWhole, IsSeen}
use Rattle.pv_diff.proofs.forest.forest_of.Given as goal

abbrev pub invariant-loop-slot : goal.invariant-loop-slot
invariant-loop-slot l = record {
  whole : IsWhole l.chains.ends.items l.chains.first.items l.forest.nodes.items l.forest.seen.items;
  size : length l.forest.seen.items ≡ length l.chains.first.items;
  seen : (k : ℕ) → k < l.slot → IsSeen l.forest.seen.items k;
}
