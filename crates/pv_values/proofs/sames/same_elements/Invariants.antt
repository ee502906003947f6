use Rattle.std.proofs.Common.{◌≡◌, drop}
use Rattle.pv_values.specs.Sames as sames
use Rattle.pv_values.proofs.sames.same_elements.Given as goal

abbrev pub invariant-loop-index : goal.invariant-loop-index
invariant-loop-index l = sames.same_elements (drop l.index l.a) (drop l.index l.b) ≡ sames.same_elements l.a l.b
