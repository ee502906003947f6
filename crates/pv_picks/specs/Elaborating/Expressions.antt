-- Expressions and formulas as the meaning reads them: one step a node, over what its parts gave.
use Rattle.std.specs.Prelude.{ℕ, pos, ◌*◌, ◌/◌, Bool, true, false, not, ◌&&◌, ◌||◌, Option, Some, None, is_some, unwrap_or, List, map, if◌then◌else◌}
use Rattle.std.specs.List.{list_any}
use Rattle.pv_base.specs.declared.Name.{Name}
use Rattle.pv_base.specs.declared.Span.{Span}
use Rattle.pv_ast.specs.declared.Operator.{Operator}
use Rattle.pv_ast.specs.declared.Operator.TheVariants as op
use Rattle.pv_ast.specs.declared.Token.TheVariants as token
use Rattle.pv_ast.specs.declared.PvType.{PvType}
use Rattle.pv_ast.specs.declared.Expr.{Expr, Expr-F, fold-Expr}
use Rattle.pv_ast.specs.declared.ExprKind.{ExprKind, ExprKind-F, fold-ExprKind, map-ExprKind}
use Rattle.pv_ast.specs.declared.Each.{Each, Each-F, fold-Each, map-Each}
use Rattle.pv_values.specs.declared.value.Value.TheVariants as value
use Rattle.pv_fraction.specs.Amounts as amounts
use Rattle.pv_ast.specs.Rules.Scoping.{Visible, variable_named}
use Rattle.pv_ast.specs.Rules.Typing.{is_amount}
use Rattle.pv_ast.specs.Rules.Expressions.{Environment, CheckedExpression, CheckedKind, checked_in_kind, checked_in_each, checked_in_expression, typing_in, seen_of_target, with_bound}
use Rattle.pv_ast.specs.Rules.Items.{Shape, KindShape, EachShape, Form, element, is_guard, is_fixing, keeps_left, facts_in_kind, shape_in_kind, shape_in_each, shape_in_expr}
use Rattle.pv_picks.specs.Plain.Core.{Expression, Formula, Items, Item}
use Rattle.pv_picks.specs.Plain.Core as core
use Rattle.pv_picks.specs.Elaborating.Operations.{number, no_expression, no_formula, no_item, operation, negation, cuts_of, term_of, permission, permissions}
use Rattle.pv_picks.specs.Elaborating.Names.{settled, class_at, elements_of, named, member_of}

-- What an expression gives: what the static rules and the shapes say of it; the number that it is, where it is a written one;
-- whether `\old` stands in it; and what it becomes where it stands: an expression, a formula, items for a position, and one
-- item. A formula or item that stands in a conjunct has its span; else it is made of conjuncts with spans of their own.
pub record ElaboratedExpression : Type 0 where
  pub checked : CheckedExpression
  pub shape : Shape
  pub written : Option ℕ
  pub old : Bool
  pub expression : Environment → Visible → Expression
  pub formula : Option Span → Environment → Visible → Formula
  pub items : Name → Option Span → Environment → Visible → Items
  pub item : Name → Option Span → Environment → Visible → Item

-- the same of its kind, to which its span is told
pub record ElaboratedKind : Type 0 where
  pub checked : CheckedKind
  pub shape : KindShape
  pub written : Option ℕ
  pub old : Bool
  pub expression : Span → Environment → Visible → Expression
  pub formula : Span → Option Span → Environment → Visible → Formula
  pub items : Span → Name → Option Span → Environment → Visible → Items
  pub item : Span → Name → Option Span → Environment → Visible → Item

-- what a quantifier gives: a formula in a conjunct of this span
pub record ElaboratedEach : Type 0 where
  pub checked : CheckedKind
  pub shape : EachShape
  pub old : Bool
  pub formula : Span → Environment → Visible → Formula

abbrev pub Layer : Type 0
Layer = ExprKind-F ElaboratedKind ElaboratedEach ElaboratedExpression

abbrev pub parts_in : Layer → ExprKind-F CheckedKind CheckedKind CheckedExpression
parts_in = map-ExprKind ElaboratedKind ElaboratedEach ElaboratedExpression CheckedKind CheckedKind CheckedExpression
    (λ k. k.checked) (λ q. q.checked) (λ p. p.checked)

abbrev pub shapes_in : Layer → ExprKind-F KindShape EachShape Shape
shapes_in = map-ExprKind ElaboratedKind ElaboratedEach ElaboratedExpression KindShape EachShape Shape (λ k. k.shape)
    (λ q. q.shape) (λ p. p.shape)

abbrev pub written_in_kind : Layer → Option ℕ
written_in_kind (ExprKind-F.Number n) = Some n
written_in_kind _ = None

abbrev pub old_in_option : Option ElaboratedExpression → Bool
old_in_option None = false
old_in_option (Some p) = p.old

abbrev pub old_in_kind : Layer → Bool
old_in_kind (ExprKind-F.Number n) = false
old_in_kind (ExprKind-F.Truth b) = false
old_in_kind ExprKind-F.Null = false
old_in_kind ExprKind-F.This = false
old_in_kind ExprKind-F.Result = false
old_in_kind (ExprKind-F.Var w) = false
old_in_kind (ExprKind-F.Field e w) = e.old
old_in_kind (ExprKind-F.Index e i) = e.old || i.old
old_in_kind (ExprKind-F.Not e) = e.old
old_in_kind (ExprKind-F.Minus e) = e.old
old_in_kind (ExprKind-F.Binary o x y) = x.old || y.old
old_in_kind (ExprKind-F.Old e) = true
old_in_kind (ExprKind-F.Perm e checked whole amount) = e.old
old_in_kind (ExprKind-F.Token t e) = e.old
old_in_kind (ExprKind-F.Instance target w args) = old_in_option target || list_any (λ p. p.old) args
old_in_kind (ExprKind-F.Each e) = e.old

-- Expressions

-- the type of a part, and the class of an object, where it stands
abbrev pub type_of_elaborated : ElaboratedExpression → Environment → Visible → PvType
type_of_elaborated p a v = settled (typing_in p.checked a v)

abbrev pub class_of_elaborated : ElaboratedExpression → Environment → Visible → Name
class_of_elaborated p a v = class_at (typing_in p.checked a v)

abbrev pub expression_in_kind : Layer → Span → Environment → Visible → Expression
expression_in_kind (ExprKind-F.Number n) span a v = number (pos n)
expression_in_kind (ExprKind-F.Truth b) span a v = core.Constant (value.Truth b)
expression_in_kind ExprKind-F.Null span a v = core.Constant (value.Reference 0)
expression_in_kind ExprKind-F.This span a v = core.This
expression_in_kind ExprKind-F.Result span a v = core.Result
expression_in_kind (ExprKind-F.Var w) span a v = named a span w.name (variable_named v w.name)
expression_in_kind (ExprKind-F.Field e w) span a v = member_of a span w.name (typing_in e.checked a v) (e.expression a v)
expression_in_kind (ExprKind-F.Index e i) span a v =
    core.Element (elements_of (typing_in e.checked a v)) (e.expression a v) (i.expression a v) span
expression_in_kind (ExprKind-F.Not e) span a v = core.Not (e.expression a v)
expression_in_kind (ExprKind-F.Minus e) span a v = negation e.written span (e.expression a v)
expression_in_kind (ExprKind-F.Binary o x y) span a v = operation o span (x.expression a v) (y.expression a v)
expression_in_kind (ExprKind-F.Old e) span a v = core.Old (e.expression a v)
expression_in_kind _ span a v = no_expression

-- what stands before the name of a method or predicate: nothing, which means `this`, or an object
abbrev pub object_of : Option ElaboratedExpression → Environment → Visible → Expression
object_of None a v = core.This
object_of (Some p) a v = p.expression a v

abbrev pub part_option : Option ElaboratedExpression → Option CheckedExpression
part_option None = None
part_option (Some p) = Some p.checked

abbrev pub class_of_object : Option ElaboratedExpression → Environment → Visible → Name
class_of_object target a v = class_at (seen_of_target a v (part_option target)).typing

abbrev pub arguments_of : List ElaboratedExpression → Environment → Visible → List Expression
arguments_of args a v = map (λ p. p.expression a v) args

-- Formulas

-- the span of the conjunct in which a part stands: one around it, or its own
abbrev pub conjunct : Option Span → Span → Span
conjunct environment own = unwrap_or environment own

-- without permissions, tokens, instances and quantifiers, which hangs on no variable
abbrev pub is_pure : Layer → Bool
is_pure k = (facts_in_kind (shapes_in k) 0).pure

-- a formula is one fact where it is pure; but at the top `**` and `&&` part conjuncts
abbrev pub is_fact : Option Span → Operator → Bool → Bool
is_fact environment o pure = pure && (is_some environment || not (keeps_left o))

-- so many units as so many parts of so many have; an amount that the static rules refuse has none, as other refused parts become
-- what stands for no part
abbrev pub units_of : ℕ → ℕ → ℕ
units_of checked whole = if is_amount checked whole then checked * amounts.whole / whole else 0

-- `**` and `&&` of formulas, and a formula behind a condition
abbrev pub joined : Operator → Option Span → Span → ElaboratedExpression → ElaboratedExpression → Environment → Visible → Formula
joined op.And environment span x y a v = core.Star (x.formula environment a v) (y.formula environment a v)
joined op.Star environment span x y a v = core.Star (x.formula environment a v) (y.formula environment a v)
joined op.Implies environment span x y a v =
    let c : Span = conjunct environment span in core.When (x.expression a v) (y.formula (Some c) a v) c
joined _ environment span x y a v = no_formula (conjunct environment span)

abbrev pub formula_in_kind : Layer → Span → Option Span → Environment → Visible → Formula
formula_in_kind (ExprKind-F.Binary o x y) span environment a v =
    if is_fact environment o (is_pure (ExprKind-F.Binary o x y)) then
    core.Fact (expression_in_kind (ExprKind-F.Binary o x y) span a v)
    (conjunct environment span)
    else joined o environment span x y a v
formula_in_kind (ExprKind-F.Perm e checked whole amount) span environment a v =
    permission (type_of_elaborated e a v) (units_of checked whole) (conjunct environment span) (e.expression a v)
formula_in_kind (ExprKind-F.Token t e) span environment a v =
    core.Holds t (class_of_elaborated e a v) (e.expression a v) (conjunct environment span)
formula_in_kind (ExprKind-F.Instance target w args) span environment a v =
    core.Instance (class_of_object target a v) w.name (object_of target a v) (arguments_of args a v) (conjunct environment span)
formula_in_kind (ExprKind-F.Each e) span environment a v = e.formula (conjunct environment span) a v
formula_in_kind k span environment a v = core.Fact (expression_in_kind k span a v) (conjunct environment span)

-- Items

abbrev pub together : Items → Items → Items
together core.NoItems js = js
together (core.Join i is) js = core.Join i (together is js)

abbrev pub alone : Item → Items
alone i = core.Join i core.NoItems

abbrev pub form_for : Name → ElaboratedExpression → Form
form_for name p = (p.shape.facts name.0).form

-- an implication: at one position, behind guards, or a pure fact
abbrev pub implied : Name → Span → ElaboratedExpression → ElaboratedExpression → Environment → Visible → Item
implied name span x y a v =
    if is_fixing (form_for name x) then core.Fixed (term_of (x.expression a v)) (y.formula (Some span) a v) span
    else (if is_guard (form_for name x) then core.Guarded (cuts_of name (x.expression a v)) (y.item name (Some span) a v) span
    else core.Repeated (core.Implies (x.expression a v) (y.expression a v)) span)

abbrev pub shifted : Form → ℕ → Span → Expression → Item
shifted (element shift) units span e = permissions shift units span e
shifted _ units span e = no_item span

abbrev pub item_in_kind : Layer → Span → Name → Option Span → Environment → Visible → Item
item_in_kind (ExprKind-F.Binary op.Implies x y) span name environment a v = implied name (conjunct environment span) x y a v
item_in_kind (ExprKind-F.Perm e checked whole amount) span name environment a v =
    shifted (form_for name e) (units_of checked whole) (conjunct environment span) (e.expression a v)
item_in_kind (ExprKind-F.Token token.Committed e) span name environment a v =
    core.Committed (class_of_elaborated e a v) (e.expression a v) (conjunct environment span)
item_in_kind k span name environment a v = core.Repeated (expression_in_kind k span a v) (conjunct environment span)

-- the items that `**` and `&&` join
abbrev pub items_in_kind : Layer → Span → Name → Option Span → Environment → Visible → Items
items_in_kind (ExprKind-F.Binary o x y) span name environment a v =
    if keeps_left o then together (x.items name environment a v) (y.items name environment a v)
    else alone (item_in_kind (ExprKind-F.Binary o x y) span name environment a v)
items_in_kind k span name environment a v = alone (item_in_kind k span name environment a v)

-- Pieces

abbrev pub elaborated_in_kind : Layer → ElaboratedKind
elaborated_in_kind k = record {
  checked = checked_in_kind (parts_in k);
  shape = shape_in_kind (shapes_in k);
  written = written_in_kind k;
  old = old_in_kind k;
  expression = expression_in_kind k;
  formula = formula_in_kind k;
  items = items_in_kind k;
  item = item_in_kind k;
}

-- the body of a quantifier is read with the bound variable in scope, and stands in the quantifier's conjunct
abbrev pub elaborated_in_each : Each-F ElaboratedKind ElaboratedEach ElaboratedExpression → ElaboratedEach
elaborated_in_each e = record {
  checked = checked_in_each (map-Each ElaboratedKind ElaboratedEach ElaboratedExpression CheckedKind CheckedKind CheckedExpression
      (λ k. k.checked) (λ q. q.checked) (λ p. p.checked) e);
  shape =
      shape_in_each (map-Each ElaboratedKind ElaboratedEach ElaboratedExpression KindShape EachShape Shape (λ k. k.shape)
      (λ q. q.shape) (λ p. p.shape) e);
  old = e.low.old || (e.high.old || e.body.old);
  formula = λ span a v.
      core.Each e.name.name (e.low.expression a v) (e.high.expression a v)
      (e.body.items e.name.name (Some span) a (with_bound v e.name)) span;
}

abbrev pub elaborated_in_expression : Expr-F ElaboratedKind ElaboratedEach ElaboratedExpression → ElaboratedExpression
elaborated_in_expression e = record {
  checked = checked_in_expression (record { span = e.span; kind = e.kind.checked });
  shape = shape_in_expr (record { span = e.span; kind = e.kind.shape });
  written = e.kind.written;
  old = e.kind.old;
  expression = e.kind.expression e.span;
  formula = e.kind.formula e.span;
  items = e.kind.items e.span;
  item = e.kind.item e.span;
}

unfoldable pub elaborated_expression : Expr → ElaboratedExpression
elaborated_expression = fold-Expr ElaboratedKind ElaboratedEach ElaboratedExpression elaborated_in_kind elaborated_in_each
    elaborated_in_expression

unfoldable pub elaborated_kind : ExprKind → ElaboratedKind
elaborated_kind = fold-ExprKind ElaboratedKind ElaboratedEach ElaboratedExpression elaborated_in_kind elaborated_in_each
    elaborated_in_expression

unfoldable pub elaborated_each : Each → ElaboratedEach
elaborated_each = fold-Each ElaboratedKind ElaboratedEach ElaboratedExpression elaborated_in_kind elaborated_in_each
    elaborated_in_expression

-- what an expression becomes where it stands
abbrev pub core_of_expression : Environment → Visible → Expr → Expression
core_of_expression a v e = (elaborated_expression e).expression a v

-- what a formula becomes: its conjuncts have their own spans
abbrev pub core_of_formula : Environment → Visible → Expr → Formula
core_of_formula a v e = (elaborated_expression e).formula None a v

-- what a formula becomes that is made of items for a position
abbrev pub core_of_items : Name → Environment → Visible → Expr → Items
core_of_items name a v e = (elaborated_expression e).items name None a v

abbrev pub has_old : Expr → Bool
has_old e = (elaborated_expression e).old
