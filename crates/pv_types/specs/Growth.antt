-- How the names in scope grow.
use Rattle.std.specs.Prelude.{ℕ, ◌≡◌, List, ◌++◌}
use Rattle.pv_ast.specs.declared.scope.Declared.{Declared}
use Rattle.pv_ast.specs.Rules.Scoping.{Visible}

-- the second has the names of the first, and some behind them
pub record Extends (old new : Visible) : Type 0 where
  pub outside : new.outside ≡ old.outside
  pub behind : List (ℕ × Declared)
  pub names : new.names ≡ old.names ++ behind
