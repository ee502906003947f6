use Rattle.pv_linear.specs.Decisions.{literals_in}
use Rattle.pv_diff.specs.Parts.{AllAtMost}
use Rattle.pv_path.specs.Paths.{path_of, decisions}
use Rattle.path_chain.proofs.walk_all.Given as goal

abbrev pub invariant-loop-walk : goal.invariant-loop-walk
invariant-loop-walk l = record { path : AllAtMost (path_of l.path); decisions : AllAtMost (literals_in (decisions l.path)) }
