use Rattle.std.proofs.Common.{◌≡◌, ℕ, ◌<◌, length}
use Rattle.pv_diff.specs.Forest.{HasRoot}
use Rattle.pv_diff.specs.Classes.{class_at}
use Rattle.pv_diff.proofs.classes.roots_of.Given as goal

abbrev pub invariant-loop-slot : goal.invariant-loop-slot
invariant-loop-slot l = record {
  size : length l.classes.items ≡ l.slot;
  roots : (k : ℕ) → k < l.slot → HasRoot l.forest.nodes.items l.forest.seen.items k (class_at l.classes.items k);
}
