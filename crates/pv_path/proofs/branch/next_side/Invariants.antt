use Rattle.std.proofs.Common.{drop}
use Rattle.pv_path.specs.Branches.{AllClosed}
use Rattle.pv_path.proofs.branch.next_side.Given as goal

abbrev pub invariant-loop-place : goal.invariant-loop-place
invariant-loop-place l = AllClosed (drop l.place l.branches)
