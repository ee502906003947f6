use Rattle.std.proofs.Common.{◌≤◌, drop}
use Rattle.std.specs.Prelude.{max}
use Rattle.pv_path.specs.Standing.{highest_among}
use Rattle.pv_path.proofs.literals.highest_of.Given as goal

abbrev pub invariant-loop-literal : goal.invariant-loop-literal
invariant-loop-literal l = highest_among l.literals ≤ max l.highest (highest_among (drop l.literal-index l.literals))
