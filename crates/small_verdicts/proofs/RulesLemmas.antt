-- What keeps the rules has its sorts.
use Rattle.std.proofs.Common.{◌≡◌, Bool, true, false, not, ◌&&◌, refl, ap, ◌∙◌, subst, List, [], ◌∷◌, map, Option, Some, None, is_some, IsTrue}
use Rattle.std.specs.List.{list_all}
use Rattle.pv_ast.specs.declared.Expr.{Expr}
use Rattle.pv_ast.specs.declared.Right.{Right}
use Rattle.pv_ast.specs.declared.RightKind.{RightKind}
use Rattle.pv_ast.specs.declared.RightKind.TheVariants as right
use Rattle.pv_ast.specs.declared.Clause.{Clause}
use Rattle.pv_ast.specs.declared.Method.{Method}
use Rattle.pv_ast.specs.declared.Stmt.{Stmt, Stmt-F, ind-Stmt, fold_out-Stmt, fold-roll-Stmt, roll-Stmt, map-Stmt}
use Rattle.pv_ast.specs.declared.StmtKind.{StmtKind, StmtKind-F, out-StmtKind, roll-StmtKind, fold-roll-StmtKind, fold_out-StmtKind, map-StmtKind}
use Rattle.small_meaning.specs.Sorts.{sort_of, is_number, is_truth}
use Rattle.small_meaning.specs.Rules.{Scope, scope_if, scope_then, scope_behind, scope_behind_kind, scope_behind_each, scope_in_kind, scope_in_stmt, is_formula, is_term, is_term_kind, is_first_value, is_assignable, is_in_scope, uses_names_of, is_last_kind, is_return_value, is_body, keeps_behind, is_clause, is_ensures, is_method, are_distinct, names_of}
use Rattle.small_verdicts.specs.Sorted.{is_sorted_stmt, is_sorted_stmt_kind, is_sorted_block, is_sorted_in_kind, is_sorted_in_stmt, is_sorted_right_kind, is_sorted_first, is_sorted_result, all_true, is_sorted_clauses, is_sorted_method}

second : (a b : Bool) → (a && b) ≡ true → b ≡ true
second true b h = h
second false b h = cc

first : (a b : Bool) → (a && b) ≡ true → a ≡ true
first true b h = refl
first false b h = cc

together : (a b : Bool) → a ≡ true → b ≡ true → (a && b) ≡ true
together a b h k = ap (λ x. x && b) h ∙ k

kept : (b : Bool) (s : Scope) → is_some (scope_if b s) ≡ true → b ≡ true
kept true s h = refl
kept false s h = cc

formula_sorted : (s : Scope) (with_result : Bool) (e : Expr) → is_formula s with_result e ≡ true → is_truth (sort_of e) ≡ true
formula_sorted s with_result e h = second (uses_names_of s with_result e) (is_truth (sort_of e)) h

term_sorted : (s : Scope) (e : Expr) → is_term s e ≡ true → is_number (sort_of e) ≡ true
term_sorted s e h = second (uses_names_of s false e) (is_number (sort_of e)) h

right_sorted : (s : Scope) (k : RightKind) → is_term_kind s k ≡ true → is_sorted_right_kind k ≡ true
right_sorted s (right.Value e) h = term_sorted s e h
right_sorted s (right.Call target name args) h = cc
right_sorted s (right.NewObject name) h = cc
right_sorted s (right.NewArray type length) h = cc

first_sorted : (s : Scope) (r : Option Right) → is_first_value s r ≡ true → is_sorted_first r ≡ true
first_sorted s None h = refl
first_sorted s (Some r) h = right_sorted s r.kind h

-- a statement that keeps the rules in some scope has its sorts
abbrev StmtIsSorted : Stmt → Type 0
StmtIsSorted x = (s : Scope) → is_some (scope_behind x s) ≡ true → is_sorted_stmt x ≡ true

abbrev KindIsSorted : StmtKind → Type 0
KindIsSorted k = (s : Scope) → is_some (scope_behind_kind k s) ≡ true → is_sorted_stmt_kind k ≡ true

abbrev scopes_in : StmtKind-F StmtKind Stmt → StmtKind-F (Scope → Option Scope) (Scope → Option Scope)
scopes_in = map-StmtKind StmtKind Stmt (Scope → Option Scope) (Scope → Option Scope) scope_behind_kind scope_behind

abbrev sorts_in : StmtKind-F StmtKind Stmt → StmtKind-F Bool Bool
sorts_in = map-StmtKind StmtKind Stmt Bool Bool is_sorted_stmt_kind is_sorted_stmt

some_next : (o : Option Scope) (next : Scope → Option Scope) → is_some (scope_then o next) ≡ true → (s : Scope) × (o ≡ Some s)
    × (is_some (next s) ≡ true)
some_next None next h = cc
some_next (Some s) next h = (s, refl, h)

each_sorted : (es : List ((x : Stmt) × StmtIsSorted x)) (s : Scope)
    → is_some (scope_behind_each (map scope_behind (map (λ e. e.0) es)) s) ≡ true
    → all_true (map is_sorted_stmt (map (λ e. e.0) es)) ≡ true
each_sorted [] s h = refl
each_sorted (e ∷ es) s h =
    let n = some_next (scope_behind e.0 s) (scope_behind_each (map scope_behind (map (λ e. e.0) es))) h in
    together (is_sorted_stmt e.0) (all_true (map is_sorted_stmt (map (λ e. e.0) es))) (e.1 s (ap is_some n.1))
    (each_sorted es n.0 n.2)

kind_layer : (y : StmtKind-F ((k : StmtKind) × KindIsSorted k) ((x : Stmt) × StmtIsSorted x)) → let x =
    map-StmtKind ((k : StmtKind) × KindIsSorted k) ((x : Stmt) × StmtIsSorted x) StmtKind Stmt (λ e. e.0) (λ e. e.0) y in
    (s : Scope) → is_some (scope_in_kind (scopes_in x) s) ≡ true → is_sorted_in_kind (sorts_in x) ≡ true
kind_layer (StmtKind-F.Local type name value) s h =
    first_sorted s value (second (not (is_in_scope s name.name.0)) (is_first_value s value)
    (kept (not (is_in_scope s name.name.0) && is_first_value s value) _ h))
kind_layer (StmtKind-F.Assign place value) s h =
    right_sorted s value.kind (second (is_assignable s place.kind) (is_term_kind s value.kind)
    (kept (is_assignable s place.kind && is_term_kind s value.kind) s h))
kind_layer (StmtKind-F.If condition a b) s h =
    let xs = is_some (scope_behind_each (map scope_behind (map (λ e. e.0) a)) s) in
    let ys = is_some (scope_behind_each (map scope_behind (map (λ e. e.0) b)) s) in
    let k = kept ((is_formula s false condition && xs) && ys) s h in
    let c = first (is_formula s false condition && xs) ys k in
    together (is_truth (sort_of condition)) (all_true (map is_sorted_stmt (map (λ e. e.0) a))
    && all_true (map is_sorted_stmt (map (λ e. e.0) b)))
    (formula_sorted s false condition (first (is_formula s false condition) xs c))
    (together (all_true (map is_sorted_stmt (map (λ e. e.0) a))) (all_true (map is_sorted_stmt (map (λ e. e.0) b)))
    (each_sorted a s (second (is_formula s false condition) xs c))
    (each_sorted b s (second (is_formula s false condition && xs) ys k)))
kind_layer (StmtKind-F.Assert formula) s h = formula_sorted s false formula (kept (is_formula s false formula) s h)
kind_layer (StmtKind-F.Return value) s h = cc
kind_layer _ s h = refl

kind_step : (x : StmtKind-F StmtKind Stmt) (y : StmtKind-F ((k : StmtKind) × KindIsSorted k) ((x : Stmt) × StmtIsSorted x))
    → map-StmtKind ((k : StmtKind) × KindIsSorted k) ((x : Stmt) × StmtIsSorted x) StmtKind Stmt (λ e. e.0) (λ e. e.0) y ≡ x
    → KindIsSorted (roll-StmtKind x)
kind_step x y is = λ s h.
    let kept_here = subst (λ (f : Scope → Option Scope). is_some (f s) ≡ true)
    (fold-roll-StmtKind (Scope → Option Scope) (Scope → Option Scope) scope_in_kind scope_in_stmt x) h in
    fold-roll-StmtKind Bool Bool is_sorted_in_kind is_sorted_in_stmt x
    ∙ subst (λ (z : StmtKind-F StmtKind Stmt). is_some (scope_in_kind (scopes_in z) s) ≡ true → is_sorted_in_kind (sorts_in z)
    ≡ true) is (kind_layer y s) kept_here

stmt_step : (x : Stmt-F StmtKind Stmt) (y : Stmt-F ((k : StmtKind) × KindIsSorted k) ((x : Stmt) × StmtIsSorted x))
    → map-Stmt ((k : StmtKind) × KindIsSorted k) ((x : Stmt) × StmtIsSorted x) StmtKind Stmt (λ e. e.0) (λ e. e.0) y ≡ x
    → StmtIsSorted (roll-Stmt x)
stmt_step x y is = λ s h.
    let kept_here = subst (λ (f : Scope → Option Scope). is_some (f s) ≡ true)
    (fold-roll-Stmt (Scope → Option Scope) (Scope → Option Scope) scope_in_kind scope_in_stmt x) h in
    fold-roll-Stmt Bool Bool is_sorted_in_kind is_sorted_in_stmt x
    ∙ subst (λ (z : Stmt-F StmtKind Stmt). is_some (scope_behind_kind z.kind s) ≡ true → is_sorted_stmt_kind z.kind ≡ true) is
    (y.kind.1 s) kept_here

stmt_sorted : (x : Stmt) → StmtIsSorted x
stmt_sorted = ind-Stmt KindIsSorted StmtIsSorted kind_step stmt_step

sorted_layer : (x : Stmt) → is_sorted_stmt x ≡ is_sorted_in_kind (sorts_in (out-StmtKind x.kind))
sorted_layer x = fold_out-Stmt Bool Bool is_sorted_in_kind is_sorted_in_stmt x
    ∙ fold_out-StmtKind Bool Bool is_sorted_in_kind is_sorted_in_stmt x.kind

result_sorted : (has_result : Bool) (value : Option Expr) (s : Scope) → is_return_value has_result value s ≡ true
    → is_sorted_result value ≡ true
result_sorted has_result None s h = refl
result_sorted has_result (Some e) s h = term_sorted s e (second has_result (is_term s e) h)

last_layer : (has_result : Bool) (last : Stmt) (s : Scope) (k : StmtKind-F StmtKind Stmt) → out-StmtKind last.kind ≡ k
    → is_last_kind has_result k last s ≡ true → is_sorted_stmt last ≡ true
last_layer has_result last s (StmtKind-F.Return value) is h =
    sorted_layer last ∙ ap (λ (k : StmtKind-F StmtKind Stmt). is_sorted_in_kind (sorts_in k)) is
    ∙ result_sorted has_result value s h
last_layer has_result last s _ is h = stmt_sorted last s (second (not has_result) (is_some (scope_behind last s)) h)

some_behind : (o : Option Scope) (next : Scope → Bool) → keeps_behind o next ≡ true → (s : Scope) × (is_some o ≡ true)
    × (next s ≡ true)
some_behind None next h = cc
some_behind (Some s) next h = (s, refl, h)

body_sorted : (has_result : Bool) (block : List Stmt) (s : Scope) → is_body has_result block s ≡ true → is_sorted_block block
    ≡ true
body_sorted has_result [] s h = refl
body_sorted has_result (last ∷ []) s h = together (is_sorted_stmt last) true
    (last_layer has_result last s (out-StmtKind last.kind) refl h) refl
body_sorted has_result (x ∷ y ∷ more) s h =
    let n = some_behind (scope_behind x s) (is_body has_result (y ∷ more)) h in
    together (is_sorted_stmt x) (is_sorted_block (y ∷ more)) (stmt_sorted x s n.1) (body_sorted has_result (y ∷ more) n.0 n.2)

clauses_sorted : (has_result : Bool) (s : Scope) (cs : List Clause) → list_all (is_clause has_result s) cs ≡ true
    → is_sorted_clauses cs ≡ true
clauses_sorted has_result s [] h = refl
clauses_sorted has_result s (c ∷ cs) h =
    together (is_truth (sort_of c.formula)) (is_sorted_clauses cs)
    (formula_sorted s (has_result && is_ensures c.kind) c.formula
    (first (is_clause has_result s c) (list_all (is_clause has_result s) cs) h))
    (clauses_sorted has_result s cs (second (is_clause has_result s c) (list_all (is_clause has_result s) cs) h))

-- the parts of a method that keeps the rules have their sorts
pub method_sorted : (m : Method) → IsTrue (is_method m) → is_sorted_method m ≡ true
method_sorted m h =
    let s : Scope = record { parameters = names_of m.params; locals = [] } in
    let distinct = are_distinct (names_of m.params) in
    let clauses = list_all (is_clause (is_some m.result) s) m.contract.clauses in
    let body = is_body (is_some m.result) m.body s in
    together (is_sorted_clauses m.contract.clauses) (is_sorted_block m.body)
    (clauses_sorted (is_some m.result) s m.contract.clauses (second distinct clauses (first (distinct && clauses) body h)))
    (body_sorted (is_some m.result) m.body s (second (distinct && clauses) body h))
