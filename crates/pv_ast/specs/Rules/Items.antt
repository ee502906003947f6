-- Items: the parts of which quantified formulas and the contracts of blocks are made. An item speaks of one position, for
-- which a variable stands: the bound variable of a quantifier, or the loop variable of a block. A term is an expression
-- without the variable.
use Rattle.std.specs.Prelude.{ℕ, ℤ, pos, ◌-ℤ◌, nat_eq, Bool, true, false, not, ◌&&◌, ◌||◌, if◌then◌else◌, Option, Some, None, is_some, List, [], ◌∷◌, ◌++◌}
use Rattle.std.specs.Ordering.{int_eq}
use Rattle.std.specs.List.{flat_map, list_any}
use Rattle.pv_base.specs.declared.Span.{Span}
use Rattle.pv_ast.specs.declared.Operator.{Operator}
use Rattle.pv_ast.specs.declared.Operator.TheVariants as op
use Rattle.pv_ast.specs.declared.Token.{Token}
use Rattle.pv_ast.specs.declared.Token.TheVariants as token
use Rattle.pv_ast.specs.declared.Expr.{Expr, Expr-F, fold-Expr}
use Rattle.pv_ast.specs.declared.ExprKind.{ExprKind, ExprKind-F, fold-ExprKind}
use Rattle.pv_ast.specs.declared.Each.{Each, Each-F, fold-Each}
use Rattle.pv_ast.specs.declared.fault.ShapeFault.{ShapeFault}
use Rattle.pv_ast.specs.declared.fault.ShapeFault.TheVariants.{QuantifierShape, ItemShape}

-- how the variable is used in an expression: not at all; only in indexes of arrays that are terms, where it stands with one
-- and the same number added; or elsewhere too
pub data Use : Type 0 where
  unused : Use
  shifted : ℤ → Use
  elsewhere : Use

abbrev pub is_used : Use → Bool
is_used unused = false
is_used (shifted s) = true
is_used elsewhere = true

-- the use in two parts
abbrev pub both_uses : Use → Use → Use
both_uses unused b = b
both_uses (shifted s) unused = shifted s
both_uses (shifted s) (shifted t) = if int_eq s t then shifted s else elsewhere
both_uses (shifted s) elsewhere = elsewhere
both_uses elsewhere b = elsewhere

-- what an expression is by itself, as far as items ask for it
pub data Form : Type 0 where
  -- the variable
  variable : Form
  -- a number that is written
  literal : ℕ → Form
  -- the variable with a written number added or taken away
  shift : ℤ → Form
  -- an element of an array that is a term, at the variable with so much added
  element : ℤ → Form
  -- order comparisons joined by `&&`, each of the variable with a term or of two terms
  guard : Form
  -- `i == e`, where i is the variable and e a term
  fixing : Form
  other : Form

abbrev pub is_variable : Form → Bool
is_variable variable = true
is_variable _ = false

abbrev pub is_guard : Form → Bool
is_guard guard = true
is_guard _ = false

abbrev pub is_fixing : Form → Bool
is_fixing fixing = true
is_fixing _ = false

abbrev pub literal_of : Form → Option ℕ
literal_of (literal n) = Some n
literal_of _ = None

-- how much is added to the variable in an index; `i`, `i + 0` and `i - 0` are one
abbrev pub shift_of : Form → Option ℤ
shift_of variable = Some (pos 0)
shift_of (shift s) = Some s
shift_of _ = None

-- what an expression shows of the variable. It is `pure` where it has no permission, token, instance or quantifier, and a
-- `truth` where it has no permission, token, instance or `\forall*`; the body of a `\forall` has a shape of its own
pub record Facts : Type 0 where
  pub uses : Use
  pub form : Form
  pub pure : Bool
  pub truth : Bool

abbrev pub is_term : Facts → Bool
is_term f = not (is_used f.uses)

abbrev pub is_variable_and_term : Facts → Facts → Bool
is_variable_and_term a b = is_variable a.form && is_term b

-- the variable and a term, in either order
abbrev pub has_variable_and_term : Facts → Facts → Bool
has_variable_and_term a b = is_variable_and_term a b || is_variable_and_term b a

abbrev pub are_terms : Facts → Facts → Bool
are_terms a b = is_term a && is_term b

abbrev pub form_if : Bool → Form → Form
form_if holds form = if holds then form else other

abbrev pub raised : Option ℕ → Form
raised None = other
raised (Some n) = shift (pos n)

abbrev pub lowered : Option ℕ → Form
lowered None = other
lowered (Some n) = shift (pos 0 -ℤ pos n)

abbrev pub form_of_order : Facts → Facts → Form
form_of_order a b = form_if (has_variable_and_term a b || are_terms a b) guard

abbrev pub form_of_operator : Operator → Facts → Facts → Form
form_of_operator op.Add a b = if is_variable a.form then raised (literal_of b.form) else other
form_of_operator op.Sub a b = if is_variable a.form then lowered (literal_of b.form) else other
form_of_operator op.Mul a b = other
form_of_operator op.Eq a b = form_if (is_variable_and_term a b) fixing
form_of_operator op.Ne a b = other
form_of_operator op.Lt a b = form_of_order a b
form_of_operator op.Le a b = form_of_order a b
form_of_operator op.Gt a b = form_of_order a b
form_of_operator op.Ge a b = form_of_order a b
form_of_operator op.And a b = form_if (is_guard a.form && is_guard b.form) guard
form_of_operator op.Or a b = other
form_of_operator op.Implies a b = other
form_of_operator op.Star a b = other

abbrev pub use_at : Option ℤ → Use
use_at None = elsewhere
use_at (Some s) = shifted s

-- the variable may stand in a shifted index of a term, and in no other index
abbrev pub use_of_index : Facts → Facts → Use
use_of_index array index = if is_term index then array.uses else
    (if is_term array then use_at (shift_of index.form) else elsewhere)

abbrev pub element_at : Option ℤ → Form
element_at None = other
element_at (Some s) = element s

abbrev pub form_of_index : Facts → Facts → Form
form_of_index array index = if is_term array then element_at (shift_of index.form) else other

abbrev pub facts_of_index : Facts → Facts → Facts
facts_of_index array index = record {
  uses = use_of_index array index;
  form = form_of_index array index;
  pure =
      array.pure && index.pure;
  truth = array.truth && index.truth;
}

abbrev pub facts_of_operator : Operator → Facts → Facts → Facts
facts_of_operator o a b = record {
  uses = both_uses a.uses b.uses;
  form = form_of_operator o a b;
  pure = a.pure && b.pure;
  truth =
      a.truth && b.truth;
}

abbrev pub facts_of_word : Form → Facts
facts_of_word form = record { uses = unused; form = form; pure = true; truth = true }

abbrev pub facts_of_variable : Bool → Facts
facts_of_variable same = if same then (record { uses = elsewhere; form = variable; pure = true; truth = true }) else
    facts_of_word other

-- an expression of one part
abbrev pub facts_in_environment : Facts → Facts
facts_in_environment f = record f { form = other }

abbrev pub use_if : Bool → Use
use_if used = if used then elsewhere else unused

-- a permission, a token, an instance or a quantifier, in which the variable is used or not
abbrev pub facts_of_resource : Bool → Facts
facts_of_resource used = record { uses = use_if used; form = other; pure = false; truth = false }

abbrev pub facts_of_quantifier : Bool → Bool → Facts
facts_of_quantifier star used = record { uses = use_if used; form = other; pure = false; truth = not star }

-- The forms of items. Where one expression has several, the first in this order counts: a constant or a fact; then the
-- others, of which one expression has one at most. The trees of the parts stand in the expression itself.
pub data Item : Type 0 where
  -- a pure expression that is a term
  constant : Item
  -- a pure expression with the variable only in indexes of terms, all with so much added
  fact : ℤ → Item
  -- `Perm(e[s], p)`, where e is a term and s the variable with so much added
  permission : ℤ → Item
  -- `committed(e)`, where e is a term
  committed : Item
  -- a comparison of the variable with a term, in either order
  position : Item
  -- `g ==> item`, where g is a guard
  guarded : Item → Item
  -- `i == e ==> F`, where i is the variable, e a term, and F a formula without i that has no fault of shape
  fixed : Item

abbrev pub or_else : Option Item → Option Item → Option Item
or_else None b = b
or_else (Some a) b = Some a

abbrev pub item_if : Bool → Item → Option Item
item_if holds item = if holds then Some item else None

abbrev pub item_of_use : Use → Option Item
item_of_use unused = Some constant
item_of_use (shifted s) = Some (fact s)
item_of_use elsewhere = None

abbrev pub item_of_pure : Facts → Option Item
item_of_pure f = if f.pure then item_of_use f.uses else None

abbrev pub item_of_location : Form → Option Item
item_of_location (element s) = Some (permission s)
item_of_location _ = None

abbrev pub item_of_token : Token → Facts → Option Item
item_of_token token.Idle f = None
item_of_token token.Running f = None
item_of_token token.Committed f = item_if (is_term f) committed
item_of_token token.Uncommitted f = None

abbrev pub item_of_comparison : Facts → Facts → Option Item
item_of_comparison a b = item_if (has_variable_and_term a b) position

abbrev pub guarded_item : Option Item → Option Item
guarded_item None = None
guarded_item (Some item) = Some (guarded item)

abbrev pub is_empty : List ShapeFault → Bool
is_empty [] = true
is_empty (f ∷ fs) = false

-- what holds the parts that must be items: the body of a `\forall*`, the body of a `\forall`, or a clause of a block, a
-- loop or a barrier, or a message
pub data Whole : Type 0 where
  star_body : Whole
  truth_body : Whole
  clause : Whole

-- What a kind of expression shows: the facts and the item for each variable; the quantifiers in it that stand in no other,
-- each a fault if none may stand there; its faults as a formula in which quantifiers may stand; and, for each whole and each
-- variable, the parts of which it is joined that are no items. The last three name the span of the expression.
pub record KindShape : Type 0 where
  pub facts : ℕ → Facts
  pub item : ℕ → Option Item
  pub quantifiers : Span → List ShapeFault
  pub faults : Span → List ShapeFault
  pub parts : Span → Whole → ℕ → List ShapeFault

-- the same of an expression
pub record Shape : Type 0 where
  pub facts : ℕ → Facts
  pub item : ℕ → Option Item
  pub quantifiers : List ShapeFault
  pub faults : List ShapeFault
  pub parts : Whole → ℕ → List ShapeFault

-- what a quantifier shows: the facts, and its faults in a right place
pub record EachShape : Type 0 where
  pub facts : ℕ → Facts
  pub faults : List ShapeFault

abbrev pub uses_variable : ℕ → Shape → Bool
uses_variable name e = is_used (e.facts name).uses

abbrev pub uses_of_option : ℕ → Option Shape → Bool
uses_of_option name None = false
uses_of_option name (Some e) = uses_variable name e

abbrev pub facts_in_kind : ExprKind-F KindShape EachShape Shape → ℕ → Facts
facts_in_kind (ExprKind-F.Number n) name = facts_of_word (literal n)
facts_in_kind (ExprKind-F.Truth b) name = facts_of_word other
facts_in_kind ExprKind-F.Null name = facts_of_word other
facts_in_kind ExprKind-F.This name = facts_of_word other
facts_in_kind ExprKind-F.Result name = facts_of_word other
facts_in_kind (ExprKind-F.Var w) name = facts_of_variable (nat_eq w.name.0 name)
facts_in_kind (ExprKind-F.Field e w) name = facts_in_environment (e.facts name)
facts_in_kind (ExprKind-F.Index a i) name = facts_of_index (a.facts name) (i.facts name)
facts_in_kind (ExprKind-F.Not e) name = facts_in_environment (e.facts name)
facts_in_kind (ExprKind-F.Minus e) name = facts_in_environment (e.facts name)
facts_in_kind (ExprKind-F.Binary o a b) name = facts_of_operator o (a.facts name) (b.facts name)
facts_in_kind (ExprKind-F.Old e) name = facts_in_environment (e.facts name)
facts_in_kind (ExprKind-F.Perm e a b s) name = facts_of_resource (uses_variable name e)
facts_in_kind (ExprKind-F.Token t e) name = facts_of_resource (uses_variable name e)
facts_in_kind (ExprKind-F.Instance o w args) name =
    facts_of_resource (uses_of_option name o || list_any (uses_variable name) args)
facts_in_kind (ExprKind-F.Each e) name = e.facts name

-- `g ==> item` and `i == e ==> F`, by the facts of both sides, the item on the right and its faults as a formula
abbrev pub item_of_implication : Facts → Facts → Option Item → List ShapeFault → Option Item
item_of_implication a b item faults = if is_guard a.form then guarded_item item else
    item_if (is_fixing a.form && is_term b && is_empty faults) fixed

abbrev pub item_of_operator : Operator → Facts → Facts → Option Item → List ShapeFault → Option Item
item_of_operator op.Add a b item faults = None
item_of_operator op.Sub a b item faults = None
item_of_operator op.Mul a b item faults = None
item_of_operator op.Eq a b item faults = item_of_comparison a b
item_of_operator op.Ne a b item faults = item_of_comparison a b
item_of_operator op.Lt a b item faults = item_of_comparison a b
item_of_operator op.Le a b item faults = item_of_comparison a b
item_of_operator op.Gt a b item faults = item_of_comparison a b
item_of_operator op.Ge a b item faults = item_of_comparison a b
item_of_operator op.And a b item faults = None
item_of_operator op.Or a b item faults = None
item_of_operator op.Implies a b item faults = item_of_implication a b item faults
item_of_operator op.Star a b item faults = None

abbrev pub item_of_kind : ExprKind-F KindShape EachShape Shape → ℕ → Option Item
item_of_kind (ExprKind-F.Perm e a b s) name = item_of_location (e.facts name).form
item_of_kind (ExprKind-F.Token t e) name = item_of_token t (e.facts name)
item_of_kind (ExprKind-F.Binary o a b) name = item_of_operator o (a.facts name) (b.facts name) (b.item name) b.faults
item_of_kind _ name = None

abbrev pub item_in_kind : ExprKind-F KindShape EachShape Shape → ℕ → Option Item
item_in_kind k name = or_else (item_of_pure (facts_in_kind k name)) (item_of_kind k name)

abbrev pub quantifiers_of_option : Option Shape → List ShapeFault
quantifiers_of_option None = []
quantifiers_of_option (Some e) = e.quantifiers

abbrev pub quantifiers_in_kind : ExprKind-F KindShape EachShape Shape → Span → List ShapeFault
quantifiers_in_kind (ExprKind-F.Number n) span = []
quantifiers_in_kind (ExprKind-F.Truth b) span = []
quantifiers_in_kind ExprKind-F.Null span = []
quantifiers_in_kind ExprKind-F.This span = []
quantifiers_in_kind ExprKind-F.Result span = []
quantifiers_in_kind (ExprKind-F.Var w) span = []
quantifiers_in_kind (ExprKind-F.Field e w) span = e.quantifiers
quantifiers_in_kind (ExprKind-F.Index a i) span = a.quantifiers ++ i.quantifiers
quantifiers_in_kind (ExprKind-F.Not e) span = e.quantifiers
quantifiers_in_kind (ExprKind-F.Minus e) span = e.quantifiers
quantifiers_in_kind (ExprKind-F.Binary o a b) span = a.quantifiers ++ b.quantifiers
quantifiers_in_kind (ExprKind-F.Old e) span = e.quantifiers
quantifiers_in_kind (ExprKind-F.Perm e a b s) span = e.quantifiers
quantifiers_in_kind (ExprKind-F.Token t e) span = e.quantifiers
quantifiers_in_kind (ExprKind-F.Instance o w args) span = quantifiers_of_option o ++ flat_map (λ e. e.quantifiers) args
quantifiers_in_kind (ExprKind-F.Each e) span = QuantifierShape span ∷ []

-- A quantifier that may stand in a place may stand on both sides of `**` and `&&` there, and on the right of `==>`.
abbrev pub keeps_left : Operator → Bool
keeps_left op.And = true
keeps_left op.Star = true
keeps_left _ = false

abbrev pub keeps_right : Operator → Bool
keeps_right op.And = true
keeps_right op.Star = true
keeps_right op.Implies = true
keeps_right _ = false

-- the faults where quantifiers may stand, or may not
abbrev pub faults_where : Bool → Shape → List ShapeFault
faults_where right_place e = if right_place then e.faults else e.quantifiers

abbrev pub faults_of_operator : Operator → Shape → Shape → List ShapeFault
faults_of_operator o a b = faults_where (keeps_left o) a ++ faults_where (keeps_right o) b

abbrev pub faults_in_kind : ExprKind-F KindShape EachShape Shape → Span → List ShapeFault
faults_in_kind (ExprKind-F.Binary o a b) span = faults_of_operator o a b
faults_in_kind (ExprKind-F.Each e) span = e.faults
faults_in_kind k span = quantifiers_in_kind k span

abbrev pub joins_by_star : Whole → Bool
joins_by_star star_body = true
joins_by_star truth_body = false
joins_by_star clause = true

-- by which operators the items of a whole are joined
abbrev pub joins : Whole → Operator → Bool
joins whole op.And = true
joins whole op.Star = joins_by_star whole
joins whole _ = false

-- an item that may stand in the whole: in the body of a `\forall` a truth
abbrev pub is_part : Whole → Bool → Bool → Bool
is_part star_body item truth = item
is_part truth_body item truth = item && truth
is_part clause item truth = item

abbrev pub fault_at : Whole → Span → ShapeFault
fault_at star_body span = QuantifierShape span
fault_at truth_body span = QuantifierShape span
fault_at clause span = ItemShape span

abbrev pub fault_unless : Bool → ShapeFault → List ShapeFault
fault_unless holds fault = if holds then [] else fault ∷ []

-- a part that is joined of no others
abbrev pub part_fault : ExprKind-F KindShape EachShape Shape → Span → Whole → ℕ → List ShapeFault
part_fault k span whole name = fault_unless (is_part whole (is_some (item_in_kind k name)) (facts_in_kind k name).truth)
    (fault_at whole span)

abbrev pub parts_in_kind : ExprKind-F KindShape EachShape Shape → Span → Whole → ℕ → List ShapeFault
parts_in_kind (ExprKind-F.Binary o a b) span whole name = if joins whole o then a.parts whole name ++ b.parts whole name else
    part_fault (ExprKind-F.Binary o a b) span whole name
parts_in_kind k span whole name = part_fault k span whole name

abbrev pub shape_in_kind : ExprKind-F KindShape EachShape Shape → KindShape
shape_in_kind k = record {
  facts = facts_in_kind k;
  item = item_in_kind k;
  quantifiers = quantifiers_in_kind k;
  faults =
      faults_in_kind k;
  parts = parts_in_kind k;
}

abbrev pub body_of : Bool → Whole
body_of star = if star then star_body else truth_body

abbrev pub uses_in_each : Each-F KindShape EachShape Shape → ℕ → Bool
uses_in_each e name = uses_variable name e.low || uses_variable name e.high || uses_variable name e.body

-- The bounds of a quantifier are no places for others.
abbrev pub shape_in_each : Each-F KindShape EachShape Shape → EachShape
shape_in_each e = record {
  facts = λ name. facts_of_quantifier e.star (uses_in_each e name);
  faults = e.low.quantifiers ++ e.high.quantifiers ++ e.body.parts (body_of e.star) e.name.name.0;
}

abbrev pub shape_in_expr : Expr-F KindShape EachShape Shape → Shape
shape_in_expr e = record {
  facts = e.kind.facts;
  item = e.kind.item;
  quantifiers = e.kind.quantifiers e.span;
  faults =
      e.kind.faults e.span;
  parts = e.kind.parts e.span;
}

-- what an expression shows
abbrev pub shape_of : Expr → Shape
shape_of = fold-Expr KindShape EachShape Shape shape_in_kind shape_in_each shape_in_expr

abbrev pub shape_of_kind : ExprKind → KindShape
shape_of_kind = fold-ExprKind KindShape EachShape Shape shape_in_kind shape_in_each shape_in_expr

abbrev pub shape_of_each : Each → EachShape
shape_of_each = fold-Each KindShape EachShape Shape shape_in_kind shape_in_each shape_in_expr

-- the item that an expression is for the variable of this number, if it is one
abbrev pub item_of : ℕ → Expr → Option Item
item_of name e = (shape_of e).item name
