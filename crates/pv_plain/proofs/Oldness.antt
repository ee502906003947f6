-- Where `\old` stands is read off an elaborated expression by one step a node.
use Rattle.std.proofs.Common.{◌≡◌, Bool, true, false, ◌||◌, Option, Some, None, List, [], ◌∷◌, map, refl, sym, ◌∙◌, ap}
use Rattle.std.specs.List.{list_any}
use Rattle.pv_ast.specs.declared.Word.{Word}
use Rattle.pv_ast.specs.declared.Expr.{Expr}
use Rattle.pv_ast.specs.declared.ExprKind.{ExprKind, ExprKind-F, map-ExprKind, fold-roll-ExprKind}
use Rattle.pv_ast.specs.declared.ExprKind.TheVariants as tree
use Rattle.pv_picks.specs.Elaborating.Expressions.{ElaboratedExpression, ElaboratedKind, ElaboratedEach, Layer, elaborated_expression, elaborated_in_kind, old_in_option, has_old}
use Rattle.core_trees.proofs.Layers.{read_off}
use Rattle.pv_plain.specs.Olds.{or_false, old_in_kind, old_in_each, old_in_expr, old_of, old_of_kind, old_of_option}

any_read : (ps : List ElaboratedExpression) → list_any (λ p. p.old) ps ≡ list_any (λ b. b) (map (λ p. p.old) ps)
any_read [] = refl
any_read (p ∷ ps) = ap (λ b. p.old || b) (any_read ps)

pub any_of : (es : List Expr) → list_any (λ b. b) (map old_of es) ≡ list_any old_of es
any_of [] = refl
any_of (e ∷ es) = ap (λ b. old_of e || b) (any_of es)

at_kind : (l : Layer) → (elaborated_in_kind l).old
    ≡ old_in_kind (map-ExprKind ElaboratedKind ElaboratedEach ElaboratedExpression Bool Bool Bool (λ k. k.old) (λ q. q.old)
    (λ p. p.old) l)
at_kind (ExprKind-F.Number n) = refl
at_kind (ExprKind-F.Truth b) = refl
at_kind ExprKind-F.Null = refl
at_kind ExprKind-F.This = refl
at_kind ExprKind-F.Result = refl
at_kind (ExprKind-F.Var w) = refl
at_kind (ExprKind-F.Field e w) = refl
at_kind (ExprKind-F.Index e i) = refl
at_kind (ExprKind-F.Not e) = refl
at_kind (ExprKind-F.Minus e) = refl
at_kind (ExprKind-F.Binary o x y) = refl
at_kind (ExprKind-F.Old e) = refl
at_kind (ExprKind-F.Perm e checked whole amount) = refl
at_kind (ExprKind-F.Token t e) = refl
at_kind (ExprKind-F.Instance None w args) = any_read args
at_kind (ExprKind-F.Instance (Some p) w args) = ap (λ b. p.old || b) (any_read args)
at_kind (ExprKind-F.Each e) = refl

pub old_read : (e : Expr) → has_old e ≡ old_of e
old_read =
    read_off Bool Bool Bool old_in_kind old_in_each old_in_expr (λ k. k.old) (λ q. q.old) (λ p. p.old) at_kind (λ l. refl)
    (λ l. refl)

pub instance_old : (k : ExprKind) (target : Option Expr) (w : Word) (args : List Expr) → k ≡ tree.Instance target w args
    → old_of_kind k ≡ (old_of_option target || list_any old_of args)
instance_old k None w args is =
    ap old_of_kind is ∙ ap old_of_kind (sym (tree.rolls-Instance None w args))
    ∙ fold-roll-ExprKind Bool Bool Bool old_in_kind old_in_each old_in_expr (ExprKind-F.Instance None w args) ∙ any_of args
instance_old k (Some e) w args is =
    ap old_of_kind is ∙ ap old_of_kind (sym (tree.rolls-Instance (Some e) w args))
    ∙ fold-roll-ExprKind Bool Bool Bool old_in_kind old_in_each old_in_expr (ExprKind-F.Instance (Some e) w args)
    ∙ ap (λ b. old_of e || b) (any_of args)
