use Rattle.pv_diff.specs.Forest.{IsGrowing, Keeps, slot_at}
use Rattle.pv_diff.proofs.Growth.{Visited, left_of}
use Rattle.pv_diff.proofs.forest.Forest.visit.Given as goal

abbrev pub invariant-loop-next : goal.invariant-loop-next
invariant-loop-next l = record {
  growing : IsGrowing l.chains.ends.items l.chains.first.items l.self.nodes.items l.self.seen.items l.at l.root;
  keeps : Keeps l.initial.self.nodes.items l.initial.self.seen.items l.self.nodes.items l.self.seen.items;
  visited : Visited l.chains.ends.items l.chains.first.items l.self.nodes.items l.self.seen.items
      (slot_at l.initial.self.nodes.items l.at) l.root l.next;
}

abbrev pub decreases-loop-next : goal.decreases-loop-next
decreases-loop-next l = left_of l.next
