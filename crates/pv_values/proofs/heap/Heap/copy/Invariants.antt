use Rattle.std.proofs.Common.{◌≡◌, take}
use Rattle.pv_values.proofs.heap.Heap.copy.Given as goal

abbrev pub invariant-loop-thing : goal.invariant-loop-thing
invariant-loop-thing l = l.things.items ≡ take l.thing-index l.self
