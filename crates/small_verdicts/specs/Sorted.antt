-- Statements and clauses whose parts have the sorts that they need: conditions and formulas are truth values, all else is
-- numbers.
use Rattle.std.specs.Prelude.{ℕ, sum, Bool, true, false, ◌&&◌, List, [], ◌∷◌, Option, Some, None, map}
use Rattle.pv_ast.specs.Measures.{literals_of_clause}
use Rattle.pv_ast.specs.declared.Expr.{Expr}
use Rattle.pv_ast.specs.declared.Right.{Right}
use Rattle.pv_ast.specs.declared.RightKind.{RightKind}
use Rattle.pv_ast.specs.declared.RightKind.TheVariants as right
use Rattle.pv_ast.specs.declared.Stmt.{Stmt, Stmt-F, fold-Stmt}
use Rattle.pv_ast.specs.declared.StmtKind.{StmtKind, StmtKind-F, fold-StmtKind}
use Rattle.pv_ast.specs.declared.Clause.{Clause}
use Rattle.pv_ast.specs.declared.Method.{Method}
use Rattle.small_meaning.specs.Sorts.{sort_of, is_number, is_truth}

-- how many numbers are written in clauses
abbrev pub literals_of_clauses : List Clause → ℕ
literals_of_clauses clauses = sum (map literals_of_clause clauses)

abbrev pub is_sorted_right_kind : RightKind → Bool
is_sorted_right_kind (right.Value e) = is_number (sort_of e)
is_sorted_right_kind (right.Call target name args) = false
is_sorted_right_kind (right.NewObject name) = false
is_sorted_right_kind (right.NewArray type length) = false

abbrev pub is_sorted_first : Option Right → Bool
is_sorted_first None = true
is_sorted_first (Some r) = is_sorted_right_kind r.kind

abbrev pub is_sorted_result : Option Expr → Bool
is_sorted_result None = true
is_sorted_result (Some e) = is_number (sort_of e)

abbrev pub all_true : List Bool → Bool
all_true [] = true
all_true (b ∷ bs) = b && all_true bs

abbrev pub is_sorted_in_kind : StmtKind-F Bool Bool → Bool
is_sorted_in_kind (StmtKind-F.Local type name value) = is_sorted_first value
is_sorted_in_kind (StmtKind-F.Assign place value) = is_sorted_right_kind value.kind
is_sorted_in_kind (StmtKind-F.If condition first second) = is_truth (sort_of condition) && (all_true first && all_true second)
is_sorted_in_kind (StmtKind-F.Assert formula) = is_truth (sort_of formula)
is_sorted_in_kind (StmtKind-F.Return value) = is_sorted_result value
is_sorted_in_kind _ = true

abbrev pub is_sorted_in_stmt : Stmt-F Bool Bool → Bool
is_sorted_in_stmt s = s.kind

abbrev pub is_sorted_stmt : Stmt → Bool
is_sorted_stmt = fold-Stmt Bool Bool is_sorted_in_kind is_sorted_in_stmt

abbrev pub is_sorted_stmt_kind : StmtKind → Bool
is_sorted_stmt_kind = fold-StmtKind Bool Bool is_sorted_in_kind is_sorted_in_stmt

abbrev pub is_sorted_block : List Stmt → Bool
is_sorted_block block = all_true (map is_sorted_stmt block)

abbrev pub is_sorted_clauses : List Clause → Bool
is_sorted_clauses [] = true
is_sorted_clauses (c ∷ cs) = is_truth (sort_of c.formula) && is_sorted_clauses cs

abbrev pub is_sorted_method : Method → Bool
is_sorted_method m = is_sorted_clauses m.contract.clauses && is_sorted_block m.body
