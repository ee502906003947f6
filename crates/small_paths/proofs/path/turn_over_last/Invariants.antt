use Rattle.std.proofs.Common.{vec_len, ◌⊎◌, ◌≤◌, ◌^◌}
use Rattle.pv_linear.specs.Values.{Values}
use Rattle.small_paths.specs.Parts.{Agrees, Waits, Stands, decisions_bound, open_sides}
use Rattle.small_paths.proofs.path.turn_over_last.Given as goal

-- what stood agreed with the ended path, or still waits
abbrev pub invariant-loop-last : goal.invariant-loop-last
invariant-loop-last l = record {
  waits : (v : Values) → Stands v l.initial.decisions.items → Agrees v l.initial.decisions.items ⊎ Waits v l.decisions.items;
  bound : decisions_bound l.decisions.items ≤ 2 ^ 100;
  fewer : open_sides l.decisions.items ≤ open_sides l.initial.decisions.items;
}

abbrev pub decreases-loop-last : goal.decreases-loop-last
decreases-loop-last l = vec_len l.decisions
