use Rattle.std.proofs.Common.{◌<◌, length}
use Rattle.pv_diff.proofs.Follow.{Climbs}
use Rattle.pv_diff.proofs.table.follow.Given as goal

abbrev pub invariant-loop-step : goal.invariant-loop-step
invariant-loop-step l = record {
  slot : l.at < length l.table;
  climb : Climbs l.edges l.table l.start l.at l._step;
}
