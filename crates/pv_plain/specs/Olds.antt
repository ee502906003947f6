-- Where `\old` stands, by one step a node.
use Rattle.std.specs.Prelude.{Bool, true, false, ◌||◌, Option, Some, None, List}
use Rattle.std.specs.List.{list_any}
use Rattle.pv_ast.specs.declared.Expr.{Expr, Expr-F, fold-Expr}
use Rattle.pv_ast.specs.declared.ExprKind.{ExprKind, ExprKind-F, fold-ExprKind}
use Rattle.pv_ast.specs.declared.Each.{Each, Each-F, fold-Each}

abbrev pub or_false : Option Bool → Bool
or_false None = false
or_false (Some b) = b

abbrev pub old_in_kind : ExprKind-F Bool Bool Bool → Bool
old_in_kind (ExprKind-F.Number n) = false
old_in_kind (ExprKind-F.Truth b) = false
old_in_kind ExprKind-F.Null = false
old_in_kind ExprKind-F.This = false
old_in_kind ExprKind-F.Result = false
old_in_kind (ExprKind-F.Var w) = false
old_in_kind (ExprKind-F.Field e w) = e
old_in_kind (ExprKind-F.Index e i) = e || i
old_in_kind (ExprKind-F.Not e) = e
old_in_kind (ExprKind-F.Minus e) = e
old_in_kind (ExprKind-F.Binary o x y) = x || y
old_in_kind (ExprKind-F.Old e) = true
old_in_kind (ExprKind-F.Perm e part whole amount) = e
old_in_kind (ExprKind-F.Token t e) = e
old_in_kind (ExprKind-F.Instance target w args) = or_false target || list_any (λ b. b) args
old_in_kind (ExprKind-F.Each e) = e

abbrev pub old_in_each : Each-F Bool Bool Bool → Bool
old_in_each e = e.low || (e.high || e.body)

abbrev pub old_in_expr : Expr-F Bool Bool Bool → Bool
old_in_expr e = e.kind

abbrev pub old_of : Expr → Bool
old_of = fold-Expr Bool Bool Bool old_in_kind old_in_each old_in_expr

abbrev pub old_of_kind : ExprKind → Bool
old_of_kind = fold-ExprKind Bool Bool Bool old_in_kind old_in_each old_in_expr

abbrev pub old_of_each : Each → Bool
old_of_each = fold-Each Bool Bool Bool old_in_kind old_in_each old_in_expr

abbrev pub old_of_option : Option Expr → Bool
old_of_option None = false
old_of_option (Some e) = old_of e
