use Rattle.std.proofs.Common.{◌≤◌, ◌-◌, length}
use Rattle.pv_diff.specs.Forest.{IsGrowing, Keeps}
use Rattle.pv_diff.proofs.forest.Forest.grow.Given as goal

abbrev pub invariant-loop-at : goal.invariant-loop-at
invariant-loop-at l = record {
  growing : IsGrowing l.chains.ends.items l.chains.first.items l.self.nodes.items l.self.seen.items l.at l.root;
  keeps : Keeps l.initial.self.nodes.items l.initial.self.seen.items l.self.nodes.items l.self.seen.items;
  within : l.at ≤ length l.self.nodes.items;
}

abbrev pub decreases-loop-at : goal.decreases-loop-at
decreases-loop-at l = length l.self.seen.items - l.at
