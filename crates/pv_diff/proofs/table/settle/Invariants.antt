use Rattle.std.proofs.Common.{◌≡◌, length}
use Rattle.pv_diff.specs.Table.{IsSound, AreAbove, height}
use Rattle.pv_diff.proofs.table.settle.Given as goal

abbrev pub invariant-loop-last : goal.invariant-loop-last
invariant-loop-last l = record {
  size : length l.table.items ≡ l.count;
  sound : IsSound l.edges l.table.items;
  above : AreAbove l.edges l.table.items;
}

abbrev pub decreases-loop-last : goal.decreases-loop-last
decreases-loop-last l = height l.table.items
