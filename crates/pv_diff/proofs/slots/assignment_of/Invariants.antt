use Rattle.std.proofs.Common.{◌≡◌, ◌+◌, length}
use Rattle.pv_diff.proofs.Written.{WrittenBelow, AreNear, AreSigned}
use Rattle.pv_diff.proofs.slots.assignment_of.Given as goal

abbrev pub invariant-loop-slot : goal.invariant-loop-slot
invariant-loop-slot l = record {
  size : length l.numbers.items ≡ l.greatest + 1;
  written : WrittenBelow l.symbols l.table l.numbers.items l.zero l.slot;
  near : AreNear l.table l.numbers.items;
  signed : AreSigned l.symbols l.numbers.items;
}
