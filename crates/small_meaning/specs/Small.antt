-- Small programs, told by the form of their trees.
use Rattle.std.specs.Prelude.{Bool, true, false, not, ◌&&◌, if◌then◌else◌, Option, Some, None, is_some, List, [], ◌∷◌, IsTrue, map}
use Rattle.std.specs.List.{list_all}
use Rattle.pv_ast.specs.declared.Operator.{Operator}
use Rattle.pv_ast.specs.declared.Operator.TheVariants as op
use Rattle.pv_ast.specs.declared.PvType.{PvType}
use Rattle.pv_ast.specs.declared.PvType.TheVariants.{Int, Truth, Object, IntArray, TruthArray, Null}
use Rattle.pv_ast.specs.declared.TypeWord.{TypeWord}
use Rattle.pv_ast.specs.declared.Expr.{Expr, Expr-F, fold-Expr}
use Rattle.pv_ast.specs.declared.ExprKind.{ExprKind, ExprKind-F, fold-ExprKind}
use Rattle.pv_ast.specs.declared.ExprKind.TheVariants as kind
use Rattle.pv_ast.specs.declared.Each.{Each-F}
use Rattle.pv_ast.specs.declared.Right.{Right}
use Rattle.pv_ast.specs.declared.RightKind.{RightKind}
use Rattle.pv_ast.specs.declared.RightKind.TheVariants as right
use Rattle.pv_ast.specs.declared.Stmt.{Stmt, Stmt-F, fold-Stmt}
use Rattle.pv_ast.specs.declared.StmtKind.{StmtKind, StmtKind-F, fold-StmtKind}
use Rattle.pv_ast.specs.declared.Param.{Param}
use Rattle.pv_ast.specs.declared.Clause.{Clause}
use Rattle.pv_ast.specs.declared.Method.{Method}
use Rattle.pv_ast.specs.declared.Member.{Member}
use Rattle.pv_ast.specs.declared.Member.TheVariants as member
use Rattle.pv_ast.specs.declared.Class.{Class}
use Rattle.pv_ast.specs.declared.Program.{Program}

-- the form of an expression: a written number, another small expression, or none that is small
pub data Form : Type 0 where
  written : Form
  composed : Form
  foreign : Form

abbrev pub is_written : Form → Bool
is_written written = true
is_written composed = false
is_written foreign = false

abbrev pub is_formed : Form → Bool
is_formed written = true
is_formed composed = true
is_formed foreign = false

abbrev pub composed_if : Bool → Form
composed_if needed = if needed then composed else foreign

-- to the right of `+` and `-` stands a written number, to the right of the others any small expression; there is no `*`, no
-- `==>` and no `**`
abbrev pub form_of_operator : Operator → Form → Form → Form
form_of_operator op.Add a b = composed_if (is_formed a && is_written b)
form_of_operator op.Sub a b = composed_if (is_formed a && is_written b)
form_of_operator op.Mul a b = foreign
form_of_operator op.Eq a b = composed_if (is_formed a && is_formed b)
form_of_operator op.Ne a b = composed_if (is_formed a && is_formed b)
form_of_operator op.Lt a b = composed_if (is_formed a && is_formed b)
form_of_operator op.Le a b = composed_if (is_formed a && is_formed b)
form_of_operator op.Gt a b = composed_if (is_formed a && is_formed b)
form_of_operator op.Ge a b = composed_if (is_formed a && is_formed b)
form_of_operator op.And a b = composed_if (is_formed a && is_formed b)
form_of_operator op.Or a b = composed_if (is_formed a && is_formed b)
form_of_operator op.Implies a b = foreign
form_of_operator op.Star a b = foreign

-- only a written number is negated
abbrev pub form_in_kind : ExprKind-F Form Form Form → Form
form_in_kind (ExprKind-F.Number n) = written
form_in_kind (ExprKind-F.Truth b) = composed
form_in_kind ExprKind-F.Result = composed
form_in_kind (ExprKind-F.Var w) = composed
form_in_kind (ExprKind-F.Not a) = composed_if (is_formed a)
form_in_kind (ExprKind-F.Minus a) = composed_if (is_written a)
form_in_kind (ExprKind-F.Binary o a b) = form_of_operator o a b
form_in_kind _ = foreign

abbrev pub form_in_each : Each-F Form Form Form → Form
form_in_each e = foreign

abbrev pub form_in_expr : Expr-F Form Form Form → Form
form_in_expr e = e.kind

abbrev pub form_of : Expr → Form
form_of = fold-Expr Form Form Form form_in_kind form_in_each form_in_expr

abbrev pub form_of_kind : ExprKind → Form
form_of_kind = fold-ExprKind Form Form Form form_in_kind form_in_each form_in_expr

-- a small expression
abbrev pub is_small_expr : Expr → Bool
is_small_expr e = is_formed (form_of e)

abbrev pub is_int : PvType → Bool
is_int Int = true
is_int Truth = false
is_int (Object name) = false
is_int IntArray = false
is_int TruthArray = false
is_int Null = false

abbrev pub all_hold : List Bool → Bool
all_hold [] = true
all_hold (b ∷ bs) = b && all_hold bs

-- a right side is an expression
abbrev pub is_small_right : RightKind → Bool
is_small_right (right.Value e) = is_small_expr e
is_small_right (right.Call target name args) = false
is_small_right (right.NewObject name) = false
is_small_right (right.NewArray type length) = false

abbrev pub is_small_first_value : Option Right → Bool
is_small_first_value None = true
is_small_first_value (Some r) = is_small_right r.kind

abbrev pub is_small_returned : Option Expr → Bool
is_small_returned None = true
is_small_returned (Some e) = is_small_expr e

-- what is assigned is named
abbrev pub is_variable : ExprKind → Bool
is_variable (kind.Var w) = true
is_variable _ = false

-- declarations of whole numbers, assignments to variables, `if`, `assert` and `return`
abbrev pub small_in_kind : StmtKind-F Bool Bool → Bool
small_in_kind (StmtKind-F.Local type name value) = is_int type.kind && is_small_first_value value
small_in_kind (StmtKind-F.Assign place value) = is_variable place.kind && is_small_right value.kind
small_in_kind (StmtKind-F.If condition first second) = is_small_expr condition && all_hold first && all_hold second
small_in_kind (StmtKind-F.Assert formula) = is_small_expr formula
small_in_kind (StmtKind-F.Return value) = is_small_returned value
small_in_kind _ = false

abbrev pub small_in_stmt : Stmt-F Bool Bool → Bool
small_in_stmt s = s.kind

abbrev pub is_small_stmt : Stmt → Bool
is_small_stmt = fold-Stmt Bool Bool small_in_kind small_in_stmt

abbrev pub is_small_stmt_kind : StmtKind → Bool
is_small_stmt_kind = fold-StmtKind Bool Bool small_in_kind small_in_stmt

abbrev pub is_small_block : List Stmt → Bool
is_small_block block = all_hold (map is_small_stmt block)

abbrev pub is_small_result : Option TypeWord → Bool
is_small_result None = true
is_small_result (Some type) = is_int type.kind

abbrev pub is_small_param : Param → Bool
is_small_param p = is_int p.kind.kind

abbrev pub is_small_clause : Clause → Bool
is_small_clause c = is_small_expr c.formula

-- the parameters and the result of a method are whole numbers, and its clauses and its body are small
abbrev pub is_small_method : Method → Bool
is_small_method m = is_small_result m.result && list_all is_small_param m.params && list_all is_small_clause m.contract.clauses
    && is_small_block m.body

abbrev pub is_small_member : Member → Bool
is_small_member (member.Field p) = false
is_small_member (member.Predicate p) = false
is_small_member (member.Method m) = is_small_method m
is_small_member (member.Run r) = false

-- no lock invariant, and nothing but small methods
abbrev pub is_small_class : Class → Bool
is_small_class c = not (is_some c.lock_invariant) && list_all is_small_member c.members

-- a small program: classes without lock invariants, of methods over whole numbers whose statements and expressions have the
-- forms above
abbrev pub IsSmall : Program → Type 0
IsSmall p = IsTrue (list_all is_small_class p.classes)
