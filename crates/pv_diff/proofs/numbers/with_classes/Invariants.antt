use Rattle.std.proofs.Common.{◌<◌, length}
use Rattle.pv_diff.proofs.Assigned.{NumberedUnder}
use Rattle.pv_diff.proofs.numbers.with_classes.Given as goal

abbrev pub invariant-loop-slot : goal.invariant-loop-slot
invariant-loop-slot l = record {
  size : l.greatest < length l.all.items;
  written : NumberedUnder l.references l.classes l.fn.numbers.items l.all.items l.slot;
}
