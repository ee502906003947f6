use Rattle.std.proofs.Common.{◌<◌, ◌+◌, length}
use Rattle.pv_diff.proofs.Follow.{Made, Left}
use Rattle.pv_diff.proofs.table.loop_places.Given as goal

abbrev pub invariant-loop-step : goal.invariant-loop-step
invariant-loop-step l = record {
  slot : l.at < length l.table;
  made : Made l.edges l.table l.start l.at l.places;
  left : Left l.edges l.table l.at l.start l._step (length l.edges + 1);
}
