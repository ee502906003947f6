-- What the rules say of an instance, by what stands in it.
use Rattle.std.proofs.Common.{◌≡◌, Option, Some, None, List, map, sym, ◌∙◌, ap}
use Rattle.pv_ast.specs.declared.Word.{Word}
use Rattle.pv_ast.specs.declared.Expr.{Expr}
use Rattle.pv_ast.specs.declared.ExprKind.{ExprKind, ExprKind-F, fold-roll-ExprKind}
use Rattle.pv_ast.specs.declared.ExprKind.TheVariants as kind
use Rattle.pv_ast.specs.Rules.Expressions.{CheckedExpression, CheckedKind, checked_expression, checked_kind, checked_in_kind, checked_in_each, checked_in_expression}
use Rattle.pv_ast.specs.Rules.Statements.{checked_option}

-- an instance is checked as its target and its arguments are
pub instance_kind : (k : ExprKind) (target : Option Expr) (w : Word) (args : List Expr) → k ≡ kind.Instance target w args
    → checked_kind k ≡ checked_in_kind (ExprKind-F.Instance (checked_option target) w (map checked_expression args))
instance_kind k None w args is =
    ap checked_kind is ∙ ap checked_kind (sym (kind.rolls-Instance None w args))
    ∙ fold-roll-ExprKind CheckedKind CheckedKind CheckedExpression checked_in_kind checked_in_each checked_in_expression
    (ExprKind-F.Instance None w args)
instance_kind k (Some e) w args is =
    ap checked_kind is ∙ ap checked_kind (sym (kind.rolls-Instance (Some e) w args))
    ∙ fold-roll-ExprKind CheckedKind CheckedKind CheckedExpression checked_in_kind checked_in_each checked_in_expression
    (ExprKind-F.Instance (Some e) w args)
