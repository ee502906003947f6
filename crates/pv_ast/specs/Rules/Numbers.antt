-- The numbers that are written in a program, in the order of the text.
use Rattle.std.specs.Prelude.{ℕ, List, [], ◌∷◌, ◌++◌, Option, Some, None}
use Rattle.std.specs.List.{flat_map}
use Rattle.pv_ast.specs.declared.Expr.{Expr, Expr-F, fold-Expr}
use Rattle.pv_ast.specs.declared.ExprKind.{ExprKind, ExprKind-F, fold-ExprKind}
use Rattle.pv_ast.specs.declared.Each.{Each-F}
use Rattle.pv_ast.specs.declared.Stmt.{Stmt, Stmt-F, fold-Stmt}
use Rattle.pv_ast.specs.declared.StmtKind.{StmtKind, StmtKind-F, fold-StmtKind}
use Rattle.pv_ast.specs.declared.Range.{Range}
use Rattle.pv_ast.specs.declared.Right.{Right}
use Rattle.pv_ast.specs.declared.RightKind.{RightKind}
use Rattle.pv_ast.specs.declared.RightKind.TheVariants as right
use Rattle.pv_ast.specs.declared.Clause.{Clause}
use Rattle.pv_ast.specs.declared.Contract.{Contract}
use Rattle.pv_ast.specs.declared.Member.{Member}
use Rattle.pv_ast.specs.declared.Member.TheVariants as member
use Rattle.pv_ast.specs.declared.Class.{Class}
use Rattle.pv_ast.specs.declared.Program.{Program}

abbrev pub flattened : List (List ℕ) → List ℕ
flattened ns = flat_map (λ n. n) ns

-- those of what may be there
abbrev pub or_none : Option (List ℕ) → List ℕ
or_none None = []
or_none (Some n) = n

-- the numbers in an expression; an amount of permission is none
abbrev pub numbers_in_kind : ExprKind-F (List ℕ) (List ℕ) (List ℕ) → List ℕ
numbers_in_kind (ExprKind-F.Number n) = n ∷ []
numbers_in_kind (ExprKind-F.Truth b) = []
numbers_in_kind ExprKind-F.Null = []
numbers_in_kind ExprKind-F.This = []
numbers_in_kind ExprKind-F.Result = []
numbers_in_kind (ExprKind-F.Var w) = []
numbers_in_kind (ExprKind-F.Field e w) = e
numbers_in_kind (ExprKind-F.Index a i) = a ++ i
numbers_in_kind (ExprKind-F.Not e) = e
numbers_in_kind (ExprKind-F.Minus e) = e
numbers_in_kind (ExprKind-F.Binary op a b) = a ++ b
numbers_in_kind (ExprKind-F.Old e) = e
numbers_in_kind (ExprKind-F.Perm e a b s) = e
numbers_in_kind (ExprKind-F.Token t e) = e
numbers_in_kind (ExprKind-F.Instance o w args) = or_none o ++ flattened args
numbers_in_kind (ExprKind-F.Each e) = e

abbrev pub numbers_in_each : Each-F (List ℕ) (List ℕ) (List ℕ) → List ℕ
numbers_in_each e = e.low ++ e.high ++ e.body

abbrev pub numbers_in_expr : Expr-F (List ℕ) (List ℕ) (List ℕ) → List ℕ
numbers_in_expr e = e.kind

abbrev pub numbers_of : Expr → List ℕ
numbers_of = fold-Expr (List ℕ) (List ℕ) (List ℕ) numbers_in_kind numbers_in_each numbers_in_expr

abbrev pub numbers_of_kind : ExprKind → List ℕ
numbers_of_kind = fold-ExprKind (List ℕ) (List ℕ) (List ℕ) numbers_in_kind numbers_in_each numbers_in_expr

abbrev pub numbers_of_all : List Expr → List ℕ
numbers_of_all es = flat_map numbers_of es

abbrev pub numbers_of_option : Option Expr → List ℕ
numbers_of_option None = []
numbers_of_option (Some e) = numbers_of e

abbrev pub numbers_of_right_kind : RightKind → List ℕ
numbers_of_right_kind (right.Value e) = numbers_of e
numbers_of_right_kind (right.Call o w args) = numbers_of_option o ++ numbers_of_all args
numbers_of_right_kind (right.NewObject w) = []
numbers_of_right_kind (right.NewArray t e) = numbers_of e

abbrev pub numbers_of_right : Right → List ℕ
numbers_of_right r = numbers_of_right_kind r.kind

abbrev pub numbers_of_right_option : Option Right → List ℕ
numbers_of_right_option None = []
numbers_of_right_option (Some r) = numbers_of_right r

abbrev pub numbers_of_clause : Clause → List ℕ
numbers_of_clause c = numbers_of c.formula

abbrev pub numbers_of_contract : Contract → List ℕ
numbers_of_contract c = flat_map numbers_of_clause c.clauses

abbrev pub numbers_of_range : Range → List ℕ
numbers_of_range r = numbers_of r.low ++ numbers_of r.high

-- the numbers in a statement; the distance of a message is one
abbrev pub numbers_in_stmt_kind : StmtKind-F (List ℕ) (List ℕ) → List ℕ
numbers_in_stmt_kind (StmtKind-F.Local t w r) = numbers_of_right_option r
numbers_in_stmt_kind (StmtKind-F.Assign e r) = numbers_of e ++ numbers_of_right r
numbers_in_stmt_kind (StmtKind-F.Call o w args) = numbers_of_option o ++ numbers_of_all args
numbers_in_stmt_kind (StmtKind-F.If e a b) = numbers_of e ++ flattened a ++ flattened b
numbers_in_stmt_kind (StmtKind-F.While es e b) = numbers_of_all es ++ numbers_of e ++ flattened b
numbers_in_stmt_kind (StmtKind-F.For r c b) = numbers_of_range r ++ numbers_of_contract c ++ flattened b
numbers_in_stmt_kind (StmtKind-F.Par w r c b) = numbers_of_range r ++ numbers_of_contract c ++ flattened b
numbers_in_stmt_kind (StmtKind-F.Barrier w c) = numbers_of_contract c
numbers_in_stmt_kind (StmtKind-F.Fork e) = numbers_of e
numbers_in_stmt_kind (StmtKind-F.Join e) = numbers_of e
numbers_in_stmt_kind (StmtKind-F.Lock e) = numbers_of e
numbers_in_stmt_kind (StmtKind-F.Unlock e) = numbers_of e
numbers_in_stmt_kind (StmtKind-F.Commit e) = numbers_of e
numbers_in_stmt_kind (StmtKind-F.Fold o w args) = numbers_of_option o ++ numbers_of_all args
numbers_in_stmt_kind (StmtKind-F.Unfold o w args) = numbers_of_option o ++ numbers_of_all args
numbers_in_stmt_kind (StmtKind-F.Assert e) = numbers_of e
numbers_in_stmt_kind (StmtKind-F.Send w n e) = n ∷ numbers_of e
numbers_in_stmt_kind (StmtKind-F.Recv w) = []
numbers_in_stmt_kind (StmtKind-F.Return o) = numbers_of_option o

abbrev pub numbers_in_stmt : Stmt-F (List ℕ) (List ℕ) → List ℕ
numbers_in_stmt s = s.kind

abbrev pub numbers_of_stmt : Stmt → List ℕ
numbers_of_stmt = fold-Stmt (List ℕ) (List ℕ) numbers_in_stmt_kind numbers_in_stmt

abbrev pub numbers_of_stmt_kind : StmtKind → List ℕ
numbers_of_stmt_kind = fold-StmtKind (List ℕ) (List ℕ) numbers_in_stmt_kind numbers_in_stmt

abbrev pub numbers_of_block : List Stmt → List ℕ
numbers_of_block block = flat_map numbers_of_stmt block

abbrev pub numbers_of_member : Member → List ℕ
numbers_of_member (member.Field p) = []
numbers_of_member (member.Predicate p) = numbers_of p.body
numbers_of_member (member.Method m) = numbers_of_contract m.contract ++ numbers_of_block m.body
numbers_of_member (member.Run r) = numbers_of_contract r.contract ++ numbers_of_block r.body

abbrev pub numbers_of_class : Class → List ℕ
numbers_of_class c = numbers_of_option c.lock_invariant ++ flat_map numbers_of_member c.members

-- the numbers in a program
abbrev pub numbers_of_program : Program → List ℕ
numbers_of_program p = flat_map numbers_of_class p.classes
