-- The rules that a small program keeps, as judgements over its trees. What each rule asks stands beside it.
use Rattle.std.specs.Prelude.{ℕ, Bool, true, false, not, ◌&&◌, ◌||◌, if◌then◌else◌, nat_eq, Option, Some, None, is_some, List, [], ◌∷◌, ◌++◌, map, IsTrue}
use Rattle.std.specs.List.{list_any, list_all}
use Rattle.pv_ast.specs.declared.Expr.{Expr, Expr-F, fold-Expr}
use Rattle.pv_ast.specs.declared.ExprKind.{ExprKind, ExprKind-F, fold-ExprKind}
use Rattle.pv_ast.specs.declared.ExprKind.TheVariants as kind
use Rattle.pv_ast.specs.declared.Each.{Each-F}
use Rattle.pv_ast.specs.declared.Right.{Right}
use Rattle.pv_ast.specs.declared.RightKind.{RightKind}
use Rattle.pv_ast.specs.declared.RightKind.TheVariants as right
use Rattle.pv_ast.specs.declared.Stmt.{Stmt, Stmt-F, fold-Stmt}
use Rattle.pv_ast.specs.declared.StmtKind.{StmtKind, StmtKind-F, fold-StmtKind, out-StmtKind}
use Rattle.pv_ast.specs.declared.Param.{Param}
use Rattle.pv_ast.specs.declared.Clause.{Clause}
use Rattle.pv_ast.specs.declared.ClauseKind.{ClauseKind}
use Rattle.pv_ast.specs.declared.ClauseKind.TheVariants.{Requires, Ensures, Context}
use Rattle.pv_ast.specs.declared.Method.{Method}
use Rattle.pv_ast.specs.declared.Member.{Member}
use Rattle.pv_ast.specs.declared.Member.TheVariants as member
use Rattle.pv_ast.specs.declared.Class.{Class}
use Rattle.pv_ast.specs.declared.Program.{Program}
use Rattle.small_meaning.specs.Sorts.{sort_of, is_number, is_truth}

-- the names in scope: the parameters, and the locals declared so far
pub record Scope : Type 0 where
  pub parameters : List ℕ
  pub locals : List ℕ

abbrev pub has_name : List ℕ → ℕ → Bool
has_name names name = list_any (λ other. nat_eq other name) names

abbrev pub is_in_scope : Scope → ℕ → Bool
is_in_scope s name = has_name s.parameters name || has_name s.locals name

-- each variable is in scope, and `\result` stands only where there is a result
abbrev pub uses_in_kind : Scope → Bool → ExprKind-F Bool Bool Bool → Bool
uses_in_kind s with_result (ExprKind-F.Number n) = true
uses_in_kind s with_result (ExprKind-F.Truth b) = true
uses_in_kind s with_result ExprKind-F.Result = with_result
uses_in_kind s with_result (ExprKind-F.Var w) = is_in_scope s w.name.0
uses_in_kind s with_result (ExprKind-F.Not a) = a
uses_in_kind s with_result (ExprKind-F.Minus a) = a
uses_in_kind s with_result (ExprKind-F.Binary o a b) = a && b
uses_in_kind s with_result _ = false

abbrev pub uses_in_each : Each-F Bool Bool Bool → Bool
uses_in_each e = false

abbrev pub uses_in_expr : Expr-F Bool Bool Bool → Bool
uses_in_expr e = e.kind

abbrev pub uses_names_of : Scope → Bool → Expr → Bool
uses_names_of s with_result = fold-Expr Bool Bool Bool (uses_in_kind s with_result) uses_in_each uses_in_expr

abbrev pub uses_names_of_kind : Scope → Bool → ExprKind → Bool
uses_names_of_kind s with_result = fold-ExprKind Bool Bool Bool (uses_in_kind s with_result) uses_in_each uses_in_expr

-- a truth value over the names in scope
abbrev pub is_formula : Scope → Bool → Expr → Bool
is_formula s with_result e = uses_names_of s with_result e && is_truth (sort_of e)

-- a whole number over the names in scope
abbrev pub is_term : Scope → Expr → Bool
is_term s e = uses_names_of s false e && is_number (sort_of e)

abbrev pub is_term_kind : Scope → RightKind → Bool
is_term_kind s (right.Value e) = is_term s e
is_term_kind s (right.Call target name args) = false
is_term_kind s (right.NewObject name) = false
is_term_kind s (right.NewArray type length) = false

abbrev pub is_first_value : Scope → Option Right → Bool
is_first_value s None = true
is_first_value s (Some r) = is_term_kind s r.kind

-- only a local may be assigned
abbrev pub is_assignable : Scope → ExprKind → Bool
is_assignable s (kind.Var w) = has_name s.locals w.name.0
is_assignable s _ = false

-- the scope behind a statement that keeps the rules
abbrev pub scope_if : Bool → Scope → Option Scope
scope_if kept s = if kept then Some s else None

abbrev pub with_local : Scope → ℕ → Scope
with_local s name = record s { locals = name ∷ s.locals }

abbrev pub scope_then : Option Scope → (Scope → Option Scope) → Option Scope
scope_then None next = None
scope_then (Some s) next = next s

-- one statement behind the other
abbrev pub scope_behind_each : List (Scope → Option Scope) → Scope → Option Scope
scope_behind_each [] s = Some s
scope_behind_each (f ∷ fs) s = scope_then (f s) (scope_behind_each fs)

-- A local has a name that isn't in scope, and is in scope behind its declaration. What is declared in a block is in scope
-- only there. A `return` stands nowhere here: only as the last statement of a body.
abbrev pub scope_in_kind : StmtKind-F (Scope → Option Scope) (Scope → Option Scope) → Scope → Option Scope
scope_in_kind (StmtKind-F.Local type name value) s =
    scope_if (not (is_in_scope s name.name.0) && is_first_value s value) (with_local s name.name.0)
scope_in_kind (StmtKind-F.Assign place value) s = scope_if (is_assignable s place.kind && is_term_kind s value.kind) s
scope_in_kind (StmtKind-F.If condition first second) s =
    scope_if (is_formula s false condition && is_some (scope_behind_each first s) && is_some (scope_behind_each second s)) s
scope_in_kind (StmtKind-F.Assert formula) s = scope_if (is_formula s false formula) s
scope_in_kind _ s = None

abbrev pub scope_in_stmt : Stmt-F (Scope → Option Scope) (Scope → Option Scope) → Scope → Option Scope
scope_in_stmt e = e.kind

abbrev pub scope_behind : Stmt → Scope → Option Scope
scope_behind = fold-Stmt (Scope → Option Scope) (Scope → Option Scope) scope_in_kind scope_in_stmt

abbrev pub scope_behind_kind : StmtKind → Scope → Option Scope
scope_behind_kind = fold-StmtKind (Scope → Option Scope) (Scope → Option Scope) scope_in_kind scope_in_stmt

abbrev pub scope_behind_block : List Stmt → Scope → Option Scope
scope_behind_block block = scope_behind_each (map scope_behind block)

-- a `return` with a value ends a method with a result, one without a value a `void` method
abbrev pub is_return_value : Bool → Option Expr → Scope → Bool
is_return_value has_result None s = not has_result
is_return_value has_result (Some e) s = has_result && is_term s e

abbrev pub is_last_kind : Bool → StmtKind-F StmtKind Stmt → Stmt → Scope → Bool
is_last_kind has_result (StmtKind-F.Return value) whole s = is_return_value has_result value s
is_last_kind has_result _ whole s = not has_result && is_some (scope_behind whole s)

-- the last statement of a body: a method with a result ends with `return e;`
abbrev pub is_last : Bool → Stmt → Scope → Bool
is_last has_result last s = is_last_kind has_result (out-StmtKind last.kind) last s

abbrev pub keeps_behind : Option Scope → (Scope → Bool) → Bool
keeps_behind None next = false
keeps_behind (Some s) next = next s

abbrev pub is_body : Bool → List Stmt → Scope → Bool
is_body has_result [] s = not has_result
is_body has_result (last ∷ []) s = is_last has_result last s
is_body has_result (first ∷ second ∷ more) s = keeps_behind (scope_behind first s) (is_body has_result (second ∷ more))

-- no name stands twice
abbrev pub are_distinct : List ℕ → Bool
are_distinct [] = true
are_distinct (name ∷ names) = not (has_name names name) && are_distinct names

abbrev pub names_of : List Param → List ℕ
names_of params = map (λ p. p.name.name.0) params

abbrev pub is_ensures : ClauseKind → Bool
is_ensures Requires = false
is_ensures Ensures = true
is_ensures Context = false

-- `\result` may stand in an `ensures` of a method with a result, and in no other clause
abbrev pub is_clause : Bool → Scope → Clause → Bool
is_clause has_result s c = is_formula s (has_result && is_ensures c.kind) c.formula

abbrev pub is_method : Method → Bool
is_method m =
    let s : Scope = record { parameters = names_of m.params; locals = [] } in
    are_distinct (names_of m.params) && list_all (is_clause (is_some m.result) s) m.contract.clauses
    && is_body (is_some m.result) m.body s

abbrev pub is_member : Member → Bool
is_member (member.Field p) = false
is_member (member.Predicate p) = false
is_member (member.Method m) = is_method m
is_member (member.Run r) = false

abbrev pub names_of_member : Member → List ℕ
names_of_member (member.Field p) = p.name.name.0 ∷ []
names_of_member (member.Predicate p) = p.name.name.0 ∷ []
names_of_member (member.Method m) = m.name.name.0 ∷ []
names_of_member (member.Run r) = []

abbrev pub member_names : List Member → List ℕ
member_names [] = []
member_names (m ∷ ms) = names_of_member m ++ member_names ms

-- the members of a class have distinct names and keep the rules
abbrev pub is_class : Class → Bool
is_class c = are_distinct (member_names c.members) && list_all is_member c.members

abbrev pub KeepsRules : Program → Type 0
KeepsRules p = IsTrue (list_all is_class p.classes)
