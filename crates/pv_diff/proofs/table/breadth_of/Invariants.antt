use Rattle.std.proofs.Common.{◌≡◌, ◌+◌, drop}
use Rattle.pv_diff.specs.Edges.{breadth}
use Rattle.pv_diff.proofs.table.breadth_of.Given as goal

abbrev pub invariant-loop-edge : goal.invariant-loop-edge
invariant-loop-edge l = l.sum + breadth (drop l.edge-index l.edges) ≡ breadth l.edges
