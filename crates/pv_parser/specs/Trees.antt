-- The trees of types, statements, members and classes. The span of each goes from its first to its last token.
use Rattle.std.specs.Prelude.{ℕ, List, Option, Bool, true, false}
use Rattle.pv_base.specs.declared.Name.{Name}
use Rattle.pv_base.specs.declared.Span.{Span}
use Rattle.pv_ast.specs.declared.Word.{Word}
use Rattle.pv_ast.specs.declared.PvType.{PvType}
use Rattle.pv_ast.specs.declared.PvType.TheVariants as type
use Rattle.pv_ast.specs.declared.TypeWord.{TypeWord}
use Rattle.pv_ast.specs.declared.Expr.{Expr}
use Rattle.pv_ast.specs.declared.Right.{Right}
use Rattle.pv_ast.specs.declared.RightKind.TheVariants as right
use Rattle.pv_ast.specs.declared.Range.{Range}
use Rattle.pv_ast.specs.declared.Clause.{Clause}
use Rattle.pv_ast.specs.declared.Stmt.{Stmt}
use Rattle.pv_ast.specs.declared.StmtKind.{StmtKind}
use Rattle.pv_ast.specs.declared.StmtKind.TheVariants as st
use Rattle.pv_ast.specs.declared.Param.{Param}
use Rattle.pv_ast.specs.declared.Member.{Member}
use Rattle.pv_ast.specs.declared.Member.TheVariants as member
use Rattle.pv_ast.specs.declared.Class.{Class}
use Rattle.pv_ast.specs.declared.Program.{Program}
use Rattle.pv_reading.specs.Marks.{across}
use Rattle.pv_exprs.specs.declared.part.Part.{Part}
use Rattle.pv_exprs.specs.Trees.{tree_of, start_of}
use Rattle.pv_parser.specs.declared.words.Base.{Base}
use Rattle.pv_parser.specs.declared.words.Base.TheVariants as base
use Rattle.pv_parser.specs.declared.words.Action.{Action}
use Rattle.pv_parser.specs.declared.words.Action.TheVariants as action

-- types

abbrev pub plain_kind : Base → PvType
plain_kind base.Int = type.Int
plain_kind base.Truth = type.Truth

abbrev pub array_kind : Base → PvType
array_kind base.Int = type.IntArray
array_kind base.Truth = type.TruthArray

abbrev pub plain_type : Base → Span → TypeWord
plain_type b s = record { kind = plain_kind b; span = s }

-- the type of arrays whose word stands at s and whose last bracket stands at r
abbrev pub array_type : Base → Span → Span → TypeWord
array_type b s r = record { kind = array_kind b; span = across s r }

abbrev pub class_type : Word → TypeWord
class_type w = record { kind = type.Object w.name; span = w.span }

abbrev pub param_of : TypeWord → Word → Param
param_of t w = record { name = w; kind = t }

-- right sides

abbrev pub value_of : Part → Right
value_of a = record { span = a.span; kind = right.Value a.tree }

abbrev pub called : Option Part → Word → List Expr → Span → Right
called a w xs r = record { span = across (start_of a w) r; kind = right.Call (tree_of a) w xs }

abbrev pub new_object : Span → Word → Span → Right
new_object s w r = record { span = across s r; kind = right.NewObject w }

-- the type is that of the elements
abbrev pub new_array : Span → TypeWord → Part → Span → Right
new_array s t a r = record { span = across s r; kind = right.NewArray t a.tree }

abbrev pub range_of : Word → Part → Part → Range
range_of w a b = record { name = w; low = a.tree; high = b.tree }

-- statements

abbrev pub stmt_of : Span → Span → StmtKind → Stmt
stmt_of s l x = record { span = across s l; kind = x }

abbrev pub local_stmt : TypeWord → Word → Option Right → Span → Stmt
local_stmt t w r l = stmt_of t.span l (st.Local t w r)

abbrev pub assign_stmt : Part → Right → Span → Stmt
assign_stmt a r l = stmt_of a.span l (st.Assign a.tree r)

abbrev pub call_stmt : Option Part → Word → List Expr → Span → Stmt
call_stmt a w xs l = stmt_of (start_of a w) l (st.Call (tree_of a) w xs)

abbrev pub if_stmt : Span → Part → List Stmt → List Stmt → Span → Stmt
if_stmt s c b x l = stmt_of s l (st.If c.tree b x)

abbrev pub while_stmt : Span → List Expr → Part → List Stmt → Span → Stmt
while_stmt s is c b l = stmt_of s l (st.While is c.tree b)

abbrev pub for_stmt : Span → Range → List Clause → List Stmt → Span → Stmt
for_stmt s g cs b l = stmt_of s l (st.For g (record { clauses = cs }) b)

abbrev pub par_stmt : Span → Option Word → Range → List Clause → List Stmt → Span → Stmt
par_stmt s n g cs b l = stmt_of s l (st.Par n g (record { clauses = cs }) b)

abbrev pub barrier_stmt : Span → Word → List Clause → Span → Stmt
barrier_stmt s w cs l = stmt_of s l (st.Barrier w (record { clauses = cs }))

abbrev pub action_kind : Action → Expr → StmtKind
action_kind action.Fork a = st.Fork a
action_kind action.Join a = st.Join a
action_kind action.Lock a = st.Lock a
action_kind action.Unlock a = st.Unlock a
action_kind action.Commit a = st.Commit a

abbrev pub action_stmt : Action → Span → Part → Span → Stmt
action_stmt x s a l = stmt_of s l (action_kind x a.tree)

abbrev pub folding_kind : Bool → Option Expr → Word → List Expr → StmtKind
folding_kind true a w xs = st.Unfold a w xs
folding_kind false a w xs = st.Fold a w xs

abbrev pub folding_stmt : Bool → Span → Option Part → Word → List Expr → Span → Stmt
folding_stmt x s a w xs l = stmt_of s l (folding_kind x (tree_of a) w xs)

abbrev pub assert_stmt : Span → Part → Span → Stmt
assert_stmt s a l = stmt_of s l (st.Assert a.tree)

abbrev pub send_stmt : Span → Word → ℕ → Part → Span → Stmt
send_stmt s w n a l = stmt_of s l (st.Send w n a.tree)

abbrev pub recv_stmt : Span → Word → Span → Stmt
recv_stmt s w l = stmt_of s l (st.Recv w)

abbrev pub return_stmt : Span → Option Expr → Span → Stmt
return_stmt s a l = stmt_of s l (st.Return a)

-- members and classes

abbrev pub predicate_of : Span → Word → List Param → Part → Span → Member
predicate_of s w ps a l = member.Predicate (record { span = across s l; name = w; params = ps; body = a.tree })

abbrev pub method_of : Span → List Clause → Option TypeWord → Word → List Param → List Stmt → Span → Member
method_of s cs t w ps b l =
    member.Method (record { span = across s l; name = w; result = t; params = ps; contract = record { clauses = cs }; body = b })

-- the word `run` stands at r
abbrev pub run_of : Span → List Clause → Span → List Stmt → Span → Member
run_of s cs r b l = member.Run (record { span = across s l; word = r; contract = record { clauses = cs }; body = b })

abbrev pub class_at : Span → Option Expr → Word → List Member → Span → Class
class_at s a w ms l = record { span = across s l; name = w; lock_invariant = a; members = ms }

abbrev pub program_of : Option Name → List Class → Program
program_of length cs = record { classes = cs; length = length }
