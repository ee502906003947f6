use Rattle.pv_linear.specs.Decisions.{literals_in}
use Rattle.pv_diff.specs.Parts.{AllAtMost}
use Rattle.pv_path.specs.Paths.{path_of, decisions}
use Rattle.path_chain.proofs.walk.Given as goal

abbrev pub invariant-loop-k : goal.invariant-loop-k
invariant-loop-k l = record { path : AllAtMost (path_of l.path); decisions : AllAtMost (literals_in (decisions l.path)) }
