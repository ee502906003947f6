-- The trees of expressions and their spans. The span of a node goes from the first to the last token of its own rule;
-- parentheses belong to the part around.
use Rattle.std.specs.Prelude.{List, Option, Some, None, Bool}
use Rattle.pv_base.specs.declared.Span.{Span}
use Rattle.pv_ast.specs.declared.Word.{Word}
use Rattle.pv_ast.specs.declared.Operator.{Operator}
use Rattle.pv_ast.specs.declared.Token.{Token}
use Rattle.pv_ast.specs.declared.Each.{roll-Each}
use Rattle.pv_ast.specs.declared.Expr.{Expr}
use Rattle.pv_ast.specs.declared.ExprKind.{ExprKind}
use Rattle.pv_ast.specs.declared.ExprKind.TheVariants as e
use Rattle.pv_reading.specs.Marks.{across}
use Rattle.pv_exprs.specs.declared.part.Part.{Part}
use Rattle.pv_exprs.specs.declared.part.Chain.{Chain}
use Rattle.pv_exprs.specs.declared.part.Chain.TheVariants.{Named, Other}
use Rattle.pv_exprs.specs.declared.part.Amount.{Amount}
use Rattle.pv_exprs.specs.declared.part.Bounds.{Bounds}

abbrev pub node : Span → ExprKind → Part
node s x = record { tree = record { span = s; kind = x }; span = s }

abbrev pub joined : Operator → Part → Part → Part
joined o a b = node (across a.span b.span) (e.Binary o a.tree b.tree)

abbrev pub negated : Span → Part → Part
negated s a = node (across s a.span) (e.Not a.tree)

abbrev pub signed : Span → Part → Part
signed s a = node (across s a.span) (e.Minus a.tree)

-- a part in the parentheses at s and r
abbrev pub widened : Span → Span → Part → Part
widened s r a = record { tree = a.tree; span = across s r }

abbrev pub field_of : Part → Word → Part
field_of a w = node (across a.span w.span) (e.Field a.tree w)

-- an element of a, where the bracket behind the index stands at r
abbrev pub element_of : Part → Part → Span → Part
element_of a i r = node (across a.span r) (e.Index a.tree i.tree)

-- a chain as an expression
abbrev pub part_of : Chain → Part
part_of (Named None w) = node w.span (e.Var w)
part_of (Named (Some a) w) = field_of a w
part_of (Other a) = a

abbrev pub tree_of : Option Part → Option Expr
tree_of None = None
tree_of (Some a) = Some a.tree

-- where the name w on a receiver begins
abbrev pub start_of : Option Part → Word → Span
start_of None w = w.span
start_of (Some a) w = a.span

abbrev pub instance_of : Option Part → Word → List Expr → Span → Part
instance_of a w args r = node (across (start_of a w) r) (e.Instance (tree_of a) w args)

abbrev pub old_of : Span → Part → Span → Part
old_of s a r = node (across s r) (e.Old a.tree)

abbrev pub perm_of : Span → Part → Amount → Span → Part
perm_of s a x r = node (across s r) (e.Perm a.tree x.parts x.whole x.span)

abbrev pub token_part : Token → Span → Part → Span → Part
token_part t s a r = node (across s r) (e.Token t a.tree)

abbrev pub each_of : Bool → Span → Word → Bounds → Part → Span → Part
each_of star s w b a r =
    node (across s r) (e.Each (roll-Each (record {
      star = star;
      name = w;
      low = b.low.tree;
      high = b.high.tree;
      body = a.tree;
      written = b.written;
    })))
