-- How many tokens the reader of an argument takes, where n constructs may still be opened.
use Rattle.std.proofs.Common.{ℕ, arith}
use Rattle.pv_reading.specs.Reading.{◌>>=◌, give}
use Rattle.pv_reading.proofs.Nexts.{sub_refl}
use Rattle.pv_reading.proofs.Exact.{exact_bind, exact_give}
use Rattle.pv_reading.proofs.Loops.{Keeps, exact_keeps}
use Rattle.pv_exprs.specs.declared.level.Mode.{Mode}
use Rattle.pv_exprs.specs.Reading.{expr, deeper}
use Rattle.pv_exprs.proofs.Ranks.{above}
use Rattle.pv_exprs.proofs.Exactness.{readers_known, expr_exact}

pub tree_keeps : (m : Mode) (n : ℕ) → Keeps (expr m (deeper n) >>= λ a. give a.tree)
tree_keeps m n =
    exact_keeps (exact_bind (sub_refl (above 8)) (expr_exact n 0 (deeper n) (omega arith) (readers_known n n 0 (omega arith)) m)
    (λ a. exact_give a.tree))
