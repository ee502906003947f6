use Rattle.std.proofs.Common.{◌≡◌, ◌+◌, ◌≤◌, length, drop}
use Rattle.pv_path.specs.Branches.{branch_literals}
use Rattle.pv_path.proofs.branch.count_literals.Given as goal

abbrev pub invariant-loop-branch : goal.invariant-loop-branch
invariant-loop-branch l = record {
  few : l.count ≤ l.branch-index;
  rest : l.count + length (branch_literals (drop l.branch-index l.branches)) ≡ length (branch_literals l.branches);
}
