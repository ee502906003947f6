-- Trees that compute: what a fold gives at the tree of each.
use Rattle.std.proofs.Common.{◌≡◌, ℕ, ◌∙◌, ap, Some, None, []}
use Rattle.pv_base.specs.declared.Span.{Span}
use Rattle.pv_ast.specs.declared.Word.{Word}
use Rattle.pv_ast.specs.declared.Token.{Token}
use Rattle.pv_ast.specs.declared.Operator.{Operator}
use Rattle.pv_ast.specs.declared.Expr.{Expr, Expr-F}
use Rattle.pv_ast.specs.declared.ExprKind.{ExprKind-F}
use Rattle.pv_ast.specs.declared.ExprKind.TheVariants as k
use Rattle.pv_ast.specs.declared.Each.{Each-F}
use Rattle.pv_ast.specs.Rules.Expressions.{CheckedExpression, CheckedKind, checked_in_kind, checked_in_each, checked_in_expression}
use Rattle.pv_ast.specs.Rules.Items.{Shape, KindShape, EachShape, shape_of, clause, shape_in_kind, shape_in_each, shape_in_expr}
use Rattle.pv_ast.specs.Rules.Shapes.{quantifiers_in, faults_of_formula, faults_of_items}
use Rattle.worked_forms.proofs.Folds.{folded, number, null, this, var, field, old, perm, binary, token, own_instance, instance}

pub data Tree : Type 0 where
  Number : Span → ℕ → Tree
  Null This : Span → Tree
  Var : Span → Word → Tree
  Field : Span → Tree → Word → Tree
  Old : Span → Tree → Tree
  Perm : Span → Tree → ℕ → ℕ → Span → Tree
  Binary : Span → Operator → Tree → Tree → Tree
  Held : Span → Token → Tree → Tree
  -- an instance without arguments, of `this` and of an object
  Own : Span → Word → Tree
  Of : Span → Tree → Word → Tree

abbrev pub tree_of : Tree → Expr
tree_of (Number p n) = record { span = p; kind = k.Number n }
tree_of (Null p) = record { span = p; kind = k.Null }
tree_of (This p) = record { span = p; kind = k.This }
tree_of (Var p w) = record { span = p; kind = k.Var w }
tree_of (Field p e w) = record { span = p; kind = k.Field (tree_of e) w }
tree_of (Old p e) = record { span = p; kind = k.Old (tree_of e) }
tree_of (Perm p e a b t) = record { span = p; kind = k.Perm (tree_of e) a b t }
tree_of (Binary p o e g) = record { span = p; kind = k.Binary o (tree_of e) (tree_of g) }
tree_of (Held p t e) = record { span = p; kind = k.Token t (tree_of e) }
tree_of (Own p w) = record { span = p; kind = k.Instance None w [] }
tree_of (Of p e w) = record { span = p; kind = k.Instance (Some (tree_of e)) w [] }

module _ (K Q P : Type 0) (in_kind : ExprKind-F K Q P → K) (in_each : Each-F K Q P → Q) (in_expr : Expr-F K Q P → P) where
  abbrev pub at_node : Span → ExprKind-F K Q P → P
  at_node p l = in_expr (record { span = p; kind = in_kind l })

  abbrev pub given : Tree → P
  given (Number p n) = at_node p (ExprKind-F.Number n)
  given (Null p) = at_node p ExprKind-F.Null
  given (This p) = at_node p ExprKind-F.This
  given (Var p w) = at_node p (ExprKind-F.Var w)
  given (Field p e w) = at_node p (ExprKind-F.Field (given e) w)
  given (Old p e) = at_node p (ExprKind-F.Old (given e))
  given (Perm p e a b t) = at_node p (ExprKind-F.Perm (given e) a b t)
  given (Binary p o e g) = at_node p (ExprKind-F.Binary o (given e) (given g))
  given (Held p t e) = at_node p (ExprKind-F.Token t (given e))
  given (Own p w) = at_node p (ExprKind-F.Instance None w [])
  given (Of p e w) = at_node p (ExprKind-F.Instance (Some (given e)) w [])

  pub agrees : (t : Tree) → folded K Q P in_kind in_each in_expr (tree_of t) ≡ given t
  agrees (Number p n) = number K Q P in_kind in_each in_expr p n
  agrees (Null p) = null K Q P in_kind in_each in_expr p
  agrees (This p) = this K Q P in_kind in_each in_expr p
  agrees (Var p w) = var K Q P in_kind in_each in_expr p w
  agrees (Field p e w) =
      field K Q P in_kind in_each in_expr p (tree_of e) w ∙ ap (λ x. at_node p (ExprKind-F.Field x w)) (agrees e)
  agrees (Old p e) =
      old K Q P in_kind in_each in_expr p (tree_of e) ∙ ap (λ x. at_node p (ExprKind-F.Old x)) (agrees e)
  agrees (Perm p e a b t) =
      perm K Q P in_kind in_each in_expr p (tree_of e) a b t ∙ ap (λ x. at_node p (ExprKind-F.Perm x a b t)) (agrees e)
  agrees (Binary p o e g) =
      binary K Q P in_kind in_each in_expr p o (tree_of e) (tree_of g)
      ∙ ap (λ x. at_node p (ExprKind-F.Binary o x (folded K Q P in_kind in_each in_expr (tree_of g)))) (agrees e)
      ∙ ap (λ x. at_node p (ExprKind-F.Binary o (given e) x)) (agrees g)
  agrees (Held p t e) =
      token K Q P in_kind in_each in_expr p t (tree_of e) ∙ ap (λ x. at_node p (ExprKind-F.Token t x)) (agrees e)
  agrees (Own p w) = own_instance K Q P in_kind in_each in_expr p w []
  agrees (Of p e w) =
      instance K Q P in_kind in_each in_expr p (tree_of e) w []
      ∙ ap (λ x. at_node p (ExprKind-F.Instance (Some x) w [])) (agrees e)

-- what the rules say of it
pub checked : (t : Tree)
    → folded CheckedKind CheckedKind CheckedExpression checked_in_kind checked_in_each checked_in_expression (tree_of t)
    ≡ given CheckedKind CheckedKind CheckedExpression checked_in_kind checked_in_each checked_in_expression t
checked = agrees CheckedKind CheckedKind CheckedExpression checked_in_kind checked_in_each checked_in_expression

-- its faults of shape: in a statement, as a formula, and as a formula that is made of items for a variable
abbrev pub shape : Tree → Shape
shape = given KindShape EachShape Shape shape_in_kind shape_in_each shape_in_expr

same_shape : (t : Tree) → shape_of (tree_of t) ≡ shape t
same_shape = agrees KindShape EachShape Shape shape_in_kind shape_in_each shape_in_expr

pub shaped : (t : Tree) → quantifiers_in (tree_of t) ≡ (shape t).quantifiers
shaped t = ap (λ x. x.quantifiers) (same_shape t)

pub formula_shaped : (t : Tree) → faults_of_formula (tree_of t) ≡ (shape t).faults
formula_shaped t = ap (λ x. x.faults) (same_shape t)

pub items_shaped : (name : ℕ) (t : Tree) → faults_of_items name (tree_of t) ≡ (shape t).parts clause name
items_shaped name t = ap (λ x. x.parts clause name) (same_shape t)
