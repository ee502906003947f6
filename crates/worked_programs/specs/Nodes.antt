-- Short names for the nodes of trees, where they stand from one byte to another.
use Rattle.std.specs.Prelude.{ℕ, Bool, Option, List}
use Rattle.pv_base.specs.declared.Name.{Name}
use Rattle.pv_base.specs.declared.Span.{Span}
use Rattle.pv_ast.specs.declared.Word.{Word}
use Rattle.pv_ast.specs.declared.PvType.{PvType}
use Rattle.pv_ast.specs.declared.TypeWord.{TypeWord}
use Rattle.pv_ast.specs.declared.Expr.{Expr}
use Rattle.pv_ast.specs.declared.ExprKind.{ExprKind}
use Rattle.pv_ast.specs.declared.Each.{Each, roll-Each}
use Rattle.pv_ast.specs.declared.Clause.{Clause}
use Rattle.pv_ast.specs.declared.ClauseKind.{ClauseKind}
use Rattle.pv_ast.specs.declared.Contract.{Contract}
use Rattle.pv_ast.specs.declared.Range.{Range}
use Rattle.pv_ast.specs.declared.Right.{Right}
use Rattle.pv_ast.specs.declared.RightKind.{RightKind}
use Rattle.pv_ast.specs.declared.Stmt.{Stmt}
use Rattle.pv_ast.specs.declared.StmtKind.{StmtKind}
use Rattle.pv_ast.specs.declared.Param.{Param}
use Rattle.pv_ast.specs.declared.Predicate.{Predicate}
use Rattle.pv_ast.specs.declared.Method.{Method}
use Rattle.pv_ast.specs.declared.RunMethod.{RunMethod}
use Rattle.pv_ast.specs.declared.Member.{Member}
use Rattle.pv_ast.specs.declared.Class.{Class}

abbrev pub name : ℕ → Name
name n = record { 0 = n }

abbrev pub at : ℕ → ℕ → Span
at from to = record { from = from; to = to }

abbrev pub word : ℕ → ℕ → ℕ → Word
word n from to = record { name = name n; span = at from to }

abbrev pub node : ℕ → ℕ → ExprKind → Expr
node from to kind = record { span = at from to; kind = kind }

abbrev pub each : Bool → Word → Expr → Expr → Expr → Option (Word × Word) → Each
each star w low high body written =
    roll-Each (record { star = star; name = w; low = low; high = high; body = body; written = written })

abbrev pub type_at : ℕ → ℕ → PvType → TypeWord
type_at from to kind = record { kind = kind; span = at from to }

abbrev pub right : ℕ → ℕ → RightKind → Right
right from to kind = record { span = at from to; kind = kind }

abbrev pub clause : ClauseKind → Expr → Clause
clause kind formula = record { kind = kind; formula = formula }

abbrev pub contract : List Clause → Contract
contract clauses = record { clauses = clauses }

abbrev pub range : Word → Expr → Expr → Range
range w low high = record { name = w; low = low; high = high }

abbrev pub stmt : ℕ → ℕ → StmtKind → Stmt
stmt from to kind = record { span = at from to; kind = kind }

abbrev pub param : Word → TypeWord → Param
param w type = record { name = w; kind = type }

abbrev pub predicate : Span → Word → List Param → Expr → Predicate
predicate span w params body = record { span = span; name = w; params = params; body = body }

abbrev pub method : Span → Word → Option TypeWord → List Param → Contract → List Stmt → Method
method span w result params contract body = record {
  span = span;
  name = w;
  result = result;
  params = params;
  contract = contract;
  body = body;
}

abbrev pub run : Span → Span → Contract → List Stmt → RunMethod
run span w contract body = record { span = span; word = w; contract = contract; body = body }

abbrev pub class : Span → Word → Option Expr → List Member → Class
class span w invariant members = record { span = span; name = w; lock_invariant = invariant; members = members }
