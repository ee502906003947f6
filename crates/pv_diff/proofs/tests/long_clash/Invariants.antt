use Rattle.std.proofs.Common.{◌≤◌, ℕ, length}
use Rattle.pv_linear.specs.Literal.{bound_of_all}
use Rattle.pv_linear.specs.Sorting.{IsNumberAmong}
use Rattle.pv_diff.proofs.tests.long_clash.Given as goal

abbrev pub invariant-loop-symbol : goal.invariant-loop-symbol
invariant-loop-symbol l = record {
  references : (k : ℕ) → IsNumberAmong l.literals.items k → ⊥;
  bound : bound_of_all l.literals.items ≤ 0;
  few : length l.literals.items ≤ l.symbol;
}
