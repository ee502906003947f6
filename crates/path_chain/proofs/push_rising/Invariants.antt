use Rattle.pv_diff.specs.Parts.{AllAtMost}
use Rattle.pv_path.specs.Paths.{path_of}
use Rattle.path_chain.proofs.push_rising.Given as goal

abbrev pub invariant-loop-k : goal.invariant-loop-k
invariant-loop-k l = AllAtMost (path_of l.path)
