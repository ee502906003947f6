-- Functions of whole trees, each by one step: what a node gives, once each child has given its result.
use Rattle.std.specs.Prelude.{ℕ, ◌+◌, sum, List, Option, Some, None, map}
use Rattle.pv_ast.specs.declared.Expr.{Expr, Expr-F, fold-Expr}
use Rattle.pv_ast.specs.declared.ExprKind.{ExprKind, ExprKind-F, fold-ExprKind}
use Rattle.pv_ast.specs.declared.Each.{Each-F}
use Rattle.pv_ast.specs.declared.Stmt.{Stmt, Stmt-F, fold-Stmt}
use Rattle.pv_ast.specs.declared.StmtKind.{StmtKind, StmtKind-F, fold-StmtKind}
use Rattle.pv_ast.specs.declared.Range.{Range}
use Rattle.pv_ast.specs.declared.Right.{Right}
use Rattle.pv_ast.specs.declared.RightKind.{RightKind}
use Rattle.pv_ast.specs.declared.RightKind.TheVariants as right
use Rattle.pv_ast.specs.declared.Clause.{Clause}
use Rattle.pv_ast.specs.declared.Contract.{Contract}
use Rattle.pv_ast.specs.declared.Member.{Member}
use Rattle.pv_ast.specs.declared.Member.TheVariants as member
use Rattle.pv_ast.specs.declared.Class.{Class}
use Rattle.pv_ast.specs.declared.Program.{Program}

-- the sum over what may be there
abbrev pub or_zero : Option ℕ → ℕ
or_zero None = 0
or_zero (Some n) = n

-- how many numbers are written in an expression; an amount of permission counts as none
abbrev pub literals_in_kind : ExprKind-F ℕ ℕ ℕ → ℕ
literals_in_kind (ExprKind-F.Number n) = 1
literals_in_kind (ExprKind-F.Truth b) = 0
literals_in_kind ExprKind-F.Null = 0
literals_in_kind ExprKind-F.This = 0
literals_in_kind ExprKind-F.Result = 0
literals_in_kind (ExprKind-F.Var w) = 0
literals_in_kind (ExprKind-F.Field e w) = e
literals_in_kind (ExprKind-F.Index a i) = a + i
literals_in_kind (ExprKind-F.Not e) = e
literals_in_kind (ExprKind-F.Minus e) = e
literals_in_kind (ExprKind-F.Binary op a b) = a + b
literals_in_kind (ExprKind-F.Old e) = e
literals_in_kind (ExprKind-F.Perm e a b s) = e
literals_in_kind (ExprKind-F.Token t e) = e
literals_in_kind (ExprKind-F.Instance o w args) = or_zero o + sum args
literals_in_kind (ExprKind-F.Each e) = e

abbrev pub literals_in_each : Each-F ℕ ℕ ℕ → ℕ
literals_in_each e = e.low + e.high + e.body

abbrev pub literals_in_expr : Expr-F ℕ ℕ ℕ → ℕ
literals_in_expr e = e.kind

abbrev pub literals_of : Expr → ℕ
literals_of = fold-Expr ℕ ℕ ℕ literals_in_kind literals_in_each literals_in_expr

abbrev pub literals_of_kind : ExprKind → ℕ
literals_of_kind = fold-ExprKind ℕ ℕ ℕ literals_in_kind literals_in_each literals_in_expr

abbrev pub literals_of_all : List Expr → ℕ
literals_of_all es = sum (map literals_of es)

abbrev pub literals_of_option : Option Expr → ℕ
literals_of_option None = 0
literals_of_option (Some e) = literals_of e

abbrev pub literals_of_right_kind : RightKind → ℕ
literals_of_right_kind (right.Value e) = literals_of e
literals_of_right_kind (right.Call o w args) = literals_of_option o + literals_of_all args
literals_of_right_kind (right.NewObject w) = 0
literals_of_right_kind (right.NewArray t e) = literals_of e

abbrev pub literals_of_right : Right → ℕ
literals_of_right r = literals_of_right_kind r.kind

abbrev pub literals_of_right_option : Option Right → ℕ
literals_of_right_option None = 0
literals_of_right_option (Some r) = literals_of_right r

abbrev pub literals_of_clause : Clause → ℕ
literals_of_clause c = literals_of c.formula

abbrev pub literals_of_contract : Contract → ℕ
literals_of_contract c = sum (map literals_of_clause c.clauses)

abbrev pub literals_of_range : Range → ℕ
literals_of_range r = literals_of r.low + literals_of r.high

-- how many numbers are written in a statement
abbrev pub literals_in_stmt_kind : StmtKind-F ℕ ℕ → ℕ
literals_in_stmt_kind (StmtKind-F.Local t w r) = literals_of_right_option r
literals_in_stmt_kind (StmtKind-F.Assign e r) = literals_of e + literals_of_right r
literals_in_stmt_kind (StmtKind-F.Call o w args) = literals_of_option o + literals_of_all args
literals_in_stmt_kind (StmtKind-F.If e a b) = literals_of e + sum a + sum b
literals_in_stmt_kind (StmtKind-F.While es e b) = literals_of_all es + literals_of e + sum b
literals_in_stmt_kind (StmtKind-F.For r c b) = literals_of_range r + literals_of_contract c + sum b
literals_in_stmt_kind (StmtKind-F.Par w r c b) = literals_of_range r + literals_of_contract c + sum b
literals_in_stmt_kind (StmtKind-F.Barrier w c) = literals_of_contract c
literals_in_stmt_kind (StmtKind-F.Fork e) = literals_of e
literals_in_stmt_kind (StmtKind-F.Join e) = literals_of e
literals_in_stmt_kind (StmtKind-F.Lock e) = literals_of e
literals_in_stmt_kind (StmtKind-F.Unlock e) = literals_of e
literals_in_stmt_kind (StmtKind-F.Commit e) = literals_of e
literals_in_stmt_kind (StmtKind-F.Fold o w args) = literals_of_option o + literals_of_all args
literals_in_stmt_kind (StmtKind-F.Unfold o w args) = literals_of_option o + literals_of_all args
literals_in_stmt_kind (StmtKind-F.Assert e) = literals_of e
literals_in_stmt_kind (StmtKind-F.Send w n e) = 1 + literals_of e
literals_in_stmt_kind (StmtKind-F.Recv w) = 0
literals_in_stmt_kind (StmtKind-F.Return o) = literals_of_option o

abbrev pub literals_in_stmt : Stmt-F ℕ ℕ → ℕ
literals_in_stmt s = s.kind

abbrev pub literals_of_stmt : Stmt → ℕ
literals_of_stmt = fold-Stmt ℕ ℕ literals_in_stmt_kind literals_in_stmt

abbrev pub literals_of_stmt_kind : StmtKind → ℕ
literals_of_stmt_kind = fold-StmtKind ℕ ℕ literals_in_stmt_kind literals_in_stmt

abbrev pub literals_of_block : List Stmt → ℕ
literals_of_block block = sum (map literals_of_stmt block)

abbrev pub literals_of_member : Member → ℕ
literals_of_member (member.Field p) = 0
literals_of_member (member.Predicate p) = literals_of p.body
literals_of_member (member.Method m) = literals_of_contract m.contract + literals_of_block m.body
literals_of_member (member.Run r) = literals_of_contract r.contract + literals_of_block r.body

abbrev pub literals_of_class : Class → ℕ
literals_of_class c = literals_of_option c.lock_invariant + sum (map literals_of_member c.members)

-- how many numbers are written in a program
abbrev pub literals_of_program : Program → ℕ
literals_of_program p = sum (map literals_of_class p.classes)
