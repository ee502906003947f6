use Rattle.std.proofs.Common.{◌≡◌, drop, slice_get}
use Rattle.pv_path.specs.Branches.{branch_turns}
use Rattle.pv_path.proofs.branch.turn_at.Given as goal

abbrev pub invariant-loop-branch : goal.invariant-loop-branch
invariant-loop-branch l = slice_get (branch_turns l.branches) l.at
    ≡ slice_get (branch_turns (drop l.branch-index l.branches)) l.before
