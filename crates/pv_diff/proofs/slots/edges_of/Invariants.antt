use Rattle.std.proofs.Common.{take}
use Rattle.pv_diff.specs.Slots.{AreEdges}
use Rattle.pv_diff.proofs.slots.edges_of.Given as goal

abbrev pub invariant-loop-literal : goal.invariant-loop-literal
invariant-loop-literal l = AreEdges l.symbols (take l.literal-index l.literals) l.edges.items
