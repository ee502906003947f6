use Rattle.std.proofs.Common.{◌≡◌, ◌++◌, drop}
use Rattle.small_paths.specs.Parts.{literals_of}
use Rattle.small_paths.proofs.path.literals_in.Given as goal

abbrev pub invariant-loop-d : goal.invariant-loop-d
invariant-loop-d l = l.literals.items ++ literals_of (drop l.d-index l.decisions) ≡ literals_of l.decisions
