-- What an expression becomes, by its kind and what its parts become.
use Rattle.std.proofs.Common.{◌≡◌, ℕ, pos, Bool, Option, sym, ◌∙◌, ap}
use Rattle.pv_base.specs.declared.Name.{Name}
use Rattle.pv_base.specs.declared.Span.{Span}
use Rattle.pv_ast.specs.declared.Word.{Word}
use Rattle.pv_ast.specs.declared.Operator.{Operator}
use Rattle.pv_ast.specs.declared.Expr.{Expr}
use Rattle.pv_ast.specs.declared.ExprKind.{ExprKind, ExprKind-F, roll-ExprKind}
use Rattle.pv_ast.specs.declared.ExprKind.TheVariants as tree
use Rattle.pv_ast.specs.declared.Each.{Each}
use Rattle.pv_values.specs.declared.value.Value.TheVariants as value
use Rattle.pv_ast.specs.Rules.Scoping.{Visible, variable_named}
use Rattle.pv_ast.specs.Rules.Expressions.{Environment, CheckedExpression, checked_expression, typing_in}
use Rattle.pv_picks.specs.Plain.Core.{Expression}
use Rattle.pv_picks.specs.Plain.Core as core
use Rattle.pv_picks.specs.Elaborating.Operations.{number, operation, negation}
use Rattle.pv_picks.specs.Elaborating.Names.{elements_of, named, member_of}
use Rattle.pv_picks.specs.Elaborating.Expressions.{elaborated_expression, elaborated_kind, elaborated_in_kind, elaborated_in_expression, core_of_expression, formula_in_kind, items_in_kind, item_in_kind}
use Rattle.core_trees.proofs.Layers.{layer_of, elaborated_rolled, kind_at_roll, checked_in_elaborated}

-- the piece of an expression by its layer
pub shown : (e : Expr) (l : ExprKind-F ExprKind Each Expr) (k : ExprKind) → e.kind ≡ k → roll-ExprKind l ≡ k
    → elaborated_expression e
    ≡ elaborated_in_expression (record { span = e.span; kind = elaborated_in_kind (layer_of l) })
shown e l k h r =
    elaborated_rolled e ∙ ap (λ k. elaborated_in_expression (record { span = e.span; kind = elaborated_kind k })) (h ∙ sym r)
    ∙ ap (λ k. elaborated_in_expression (record { span = e.span; kind = k })) (kind_at_roll l)

pub expression_shown : (e : Expr) (l : ExprKind-F ExprKind Each Expr) (k : ExprKind) → e.kind ≡ k → roll-ExprKind l ≡ k
    → (a : Environment) (v : Visible) → core_of_expression a v e ≡ (elaborated_in_kind (layer_of l)).expression e.span a v
expression_shown e l k h r a v = ap (λ p. p.expression a v) (shown e l k h r)

-- the same as a formula, as items for a position, and as one item, in a conjunct or with conjuncts of its own
pub formula_shown : (e : Expr) (l : ExprKind-F ExprKind Each Expr) (k : ExprKind) → e.kind ≡ k → roll-ExprKind l ≡ k
    → (environment : Option Span) (a : Environment) (v : Visible)
    → (elaborated_expression e).formula environment a v ≡ formula_in_kind (layer_of l) e.span environment a v
formula_shown e l k h r environment a v = ap (λ p. p.formula environment a v) (shown e l k h r)

pub items_shown : (e : Expr) (l : ExprKind-F ExprKind Each Expr) (k : ExprKind) → e.kind ≡ k → roll-ExprKind l ≡ k
    → (name : Name) (environment : Option Span) (a : Environment) (v : Visible)
    → (elaborated_expression e).items name environment a v ≡ items_in_kind (layer_of l) e.span name environment a v
items_shown e l k h r name environment a v = ap (λ p. p.items name environment a v) (shown e l k h r)

pub item_shown : (e : Expr) (l : ExprKind-F ExprKind Each Expr) (k : ExprKind) → e.kind ≡ k → roll-ExprKind l ≡ k
    → (name : Name) (environment : Option Span) (a : Environment) (v : Visible)
    → (elaborated_expression e).item name environment a v ≡ item_in_kind (layer_of l) e.span name environment a v
item_shown e l k h r name environment a v = ap (λ p. p.item name environment a v) (shown e l k h r)

-- Expressions

pub number_becomes : (e : Expr) (n : ℕ) → e.kind ≡ tree.Number n → (a : Environment) (v : Visible) → core_of_expression a v e
    ≡ number (pos n)
number_becomes e n h a v = expression_shown e (ExprKind-F.Number n) (tree.Number n) h (tree.rolls-Number n) a v

pub truth_becomes : (e : Expr) (b : Bool) → e.kind ≡ tree.Truth b → (a : Environment) (v : Visible) → core_of_expression a v e
    ≡ core.Constant (value.Truth b)
truth_becomes e b h a v = expression_shown e (ExprKind-F.Truth b) (tree.Truth b) h (tree.rolls-Truth b) a v

pub null_becomes : (e : Expr) → e.kind ≡ tree.Null → (a : Environment) (v : Visible) → core_of_expression a v e
    ≡ core.Constant (value.Reference 0)
null_becomes e h a v = expression_shown e ExprKind-F.Null tree.Null h tree.rolls-Null a v

pub this_becomes : (e : Expr) → e.kind ≡ tree.This → (a : Environment) (v : Visible) → core_of_expression a v e ≡ core.This
this_becomes e h a v = expression_shown e ExprKind-F.This tree.This h tree.rolls-This a v

pub result_becomes : (e : Expr) → e.kind ≡ tree.Result → (a : Environment) (v : Visible) → core_of_expression a v e ≡ core.Result
result_becomes e h a v = expression_shown e ExprKind-F.Result tree.Result h tree.rolls-Result a v

pub name_becomes : (e : Expr) (w : Word) → e.kind ≡ tree.Var w → (a : Environment) (v : Visible) → core_of_expression a v e
    ≡ named a e.span w.name (variable_named v w.name)
name_becomes e w h a v = expression_shown e (ExprKind-F.Var w) (tree.Var w) h (tree.rolls-Var w) a v

pub field_becomes : (e x : Expr) (w : Word) → e.kind ≡ tree.Field x w → (a : Environment) (v : Visible) → core_of_expression a v e
    ≡ member_of a e.span w.name (typing_in (checked_expression x) a v) (core_of_expression a v x)
field_becomes e x w h a v =
    expression_shown e (ExprKind-F.Field x w) (tree.Field x w) h (tree.rolls-Field x w) a v
    ∙ ap (λ (p : CheckedExpression). member_of a e.span w.name (typing_in p a v) (core_of_expression a v x))
    (checked_in_elaborated x)

pub element_becomes : (e x i : Expr) → e.kind ≡ tree.Index x i → (a : Environment) (v : Visible) → core_of_expression a v e
    ≡ core.Element (elements_of (typing_in (checked_expression x) a v)) (core_of_expression a v x) (core_of_expression a v i)
    e.span
element_becomes e x i h a v =
    expression_shown e (ExprKind-F.Index x i) (tree.Index x i) h (tree.rolls-Index x i) a v
    ∙ ap (λ (p : CheckedExpression). core.Element (elements_of (typing_in p a v)) (core_of_expression a v x)
    (core_of_expression a v i) e.span)
    (checked_in_elaborated x)

pub not_becomes : (e x : Expr) → e.kind ≡ tree.Not x → (a : Environment) (v : Visible) → core_of_expression a v e
    ≡ core.Not (core_of_expression a v x)
not_becomes e x h a v = expression_shown e (ExprKind-F.Not x) (tree.Not x) h (tree.rolls-Not x) a v

pub minus_becomes : (e x : Expr) → e.kind ≡ tree.Minus x → (a : Environment) (v : Visible) → core_of_expression a v e
    ≡ negation (elaborated_expression x).written e.span (core_of_expression a v x)
minus_becomes e x h a v = expression_shown e (ExprKind-F.Minus x) (tree.Minus x) h (tree.rolls-Minus x) a v

pub operation_becomes : (e x y : Expr) (o : Operator) → e.kind ≡ tree.Binary o x y → (a : Environment) (v : Visible)
    → core_of_expression a v e ≡ operation o e.span (core_of_expression a v x) (core_of_expression a v y)
operation_becomes e x y o h a v = expression_shown e (ExprKind-F.Binary o x y) (tree.Binary o x y) h (tree.rolls-Binary o x y) a v

pub old_becomes : (e x : Expr) → e.kind ≡ tree.Old x → (a : Environment) (v : Visible) → core_of_expression a v e
    ≡ core.Old (core_of_expression a v x)
old_becomes e x h a v = expression_shown e (ExprKind-F.Old x) (tree.Old x) h (tree.rolls-Old x) a v
