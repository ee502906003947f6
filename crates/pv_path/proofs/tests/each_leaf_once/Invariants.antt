use Rattle.pv_linear.specs.Decisions.{literals_in}
use Rattle.pv_diff.specs.Parts.{AllAtMost}
use Rattle.pv_path.specs.Paths.{path_of, decisions}
use Rattle.pv_path.proofs.tests.each_leaf_once.Given as goal

abbrev pub invariant-loop-walk : goal.invariant-loop-walk
invariant-loop-walk g l = record { path : AllAtMost (path_of l.path); decisions : AllAtMost (literals_in (decisions l.path)) }
