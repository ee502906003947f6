use Rattle.std.proofs.Common.{arith, pos}
use Rattle.std.proofs.lemmas.Int.{ints}
use Rattle.pv_diff.specs.Edges.{edge}
use Rattle.pv_diff.proofs.Edges.{breadth-drop, breadth-most, breadth-past}
use Rattle.pv_diff.proofs.table.breadth_of.Goals as goal

pub overflow_add-sum : goal.overflow_add-sum
overflow_add-sum c = let a = breadth-most c.args.edges.now c.requires.bounds in let b =
    breadth-drop c.args.edges.now c.loop-edge.edge-index (edge 0 0 (pos 0)) c.loop-edge-test.true in omega (arith, a, b)

pub overflow_cast-result : goal.overflow_cast-result
overflow_cast-result c = let a = breadth-most c.args.edges.now c.requires.bounds in let b = c.loop-edge.invariant in
    omega (arith, ints, a, b)

pub returns : goal.returns
returns c = let a = breadth-most c.args.edges.now c.requires.bounds in let b = c.loop-edge.invariant in let d =
    breadth-past c.args.edges.now c.loop-edge.edge-index c.loop-edge-test.false in omega (arith, ints, a, b, d)
