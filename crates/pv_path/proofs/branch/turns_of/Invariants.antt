use Rattle.std.proofs.Common.{◌≡◌, ◌++◌, drop}
use Rattle.pv_path.specs.Branches.{branch_turns}
use Rattle.pv_path.proofs.branch.turns_of.Given as goal

abbrev pub invariant-loop-branch : goal.invariant-loop-branch
invariant-loop-branch l = record {
  value : l.turns.items ++ branch_turns (drop l.branch-index l.branches)
      ≡ branch_turns l.branches;
}
