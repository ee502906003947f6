use Rattle.std.proofs.Common.{drop}
use Rattle.pv_path.specs.Standing.{AreWithout}
use Rattle.pv_path.proofs.literals.is_free.Given as goal

abbrev pub invariant-loop-literal : goal.invariant-loop-literal
invariant-loop-literal l = AreWithout (drop l.literal-index l.literals) l.symbol.0 → AreWithout l.literals l.symbol.0
