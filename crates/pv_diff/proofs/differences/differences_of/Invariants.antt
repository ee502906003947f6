use Rattle.std.proofs.Common.{take}
use Rattle.pv_diff.specs.Parts.{IsPart}
use Rattle.pv_diff.proofs.differences.differences_of.Given as goal

abbrev pub invariant-loop-place : goal.invariant-loop-place
invariant-loop-place l = IsPart l.literals (take l.place l.literals) l.part.differences.items l.part.places.items
