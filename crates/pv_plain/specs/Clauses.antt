-- In which condition a clause stands.
use Rattle.std.specs.Prelude.{Bool, true, false, if◌then◌else◌}
use Rattle.pv_base.specs.declared.Name.{Name}
use Rattle.pv_ast.specs.declared.ClauseKind.{ClauseKind}
use Rattle.pv_ast.specs.declared.Expr.{Expr}
use Rattle.pv_ast.specs.Rules.Scoping.{Visible}
use Rattle.pv_ast.specs.Rules.Expressions.{Environment}
use Rattle.pv_picks.specs.Plain.Core.{Items}
use Rattle.pv_picks.specs.Plain.Core as core
use Rattle.pv_picks.specs.Elaborating.Expressions.{core_of_items}
use Rattle.pv_picks.specs.Elaborating.Statements.{stands_before, stands_after}

-- in the precondition, or else in the postcondition
abbrev pub stands : Bool → ClauseKind → Bool
stands true = stands_before
stands false = stands_after

-- the items of a formula that stands there, and none of another
abbrev pub items_where : Bool → Name → Environment → Visible → Expr → Items
items_where here name a v e = if here then core_of_items name a v e else core.NoItems
