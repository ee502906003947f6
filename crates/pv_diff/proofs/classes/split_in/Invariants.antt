use Rattle.std.proofs.Common.{◌≢◌, ℕ, ◌<◌}
use Rattle.pv_diff.specs.Classes.{IsSplit, class_at}
use Rattle.pv_diff.proofs.classes.split_in.Given as goal

abbrev pub invariant-loop-place : goal.invariant-loop-place
invariant-loop-place l = (p k z : ℕ) → p < l.place → IsSplit l.symbols l.literals p k z
    → class_at l.classes k ≢ class_at l.classes z
