use Rattle.pv_diff.specs.Parts.{AllAtMost}
use Rattle.pv_path.specs.Paths.{path_of}
use Rattle.pv_path.proofs.tests.full_at_the_last.Given as goal

abbrev pub invariant-loop-k : goal.invariant-loop-k
invariant-loop-k g l = AllAtMost (path_of l.path)
