-- What the static rules say of small bodies.
use Rattle.std.proofs.Common.{◌≡◌, Bool, true, false, not, ◌&&◌, Option, Some, None, is_some, List, [], ◌∷◌, refl, sym, ap, ◌∙◌, subst}
use Rattle.std.proofs.lemmas.Bool.{and_parts, and_from}
use Rattle.pv_base.specs.declared.Span.{Span}
use Rattle.pv_ast.specs.declared.PvType.{PvType}
use Rattle.pv_ast.specs.declared.PvType.TheVariants.{Int}
use Rattle.pv_ast.specs.declared.Expr.{Expr}
use Rattle.pv_ast.specs.declared.Stmt.{Stmt, fold_out-Stmt}
use Rattle.pv_ast.specs.declared.StmtKind.{StmtKind, StmtKind-F, out-StmtKind, fold_out-StmtKind}
use Rattle.pv_ast.specs.declared.fault.Rule.TheVariants as rule
use Rattle.pv_ast.specs.declared.standing.Need.TheVariants.{Exactly}
use Rattle.pv_ast.specs.declared.standing.StatementContext.{StatementContext}
use Rattle.pv_ast.specs.Rules.Scoping.{Visible}
use Rattle.pv_ast.specs.Rules.Expressions.{Environment}
use Rattle.pv_ast.specs.Rules.Statements.{CheckedStatement, CheckedStatementKind, checked_statement, checked_in_statement_kind, checked_in_statement, parts_of_block, faults_of_body, need_of_result}
use Rattle.pv_ast.specs.Rules.Programs.{at_body, ends_with_value, is_value_return}
use Rattle.small_meaning.specs.Rules.{Scope, is_body, is_last, is_last_kind, is_return_value, scope_behind, is_term}
use Rattle.small_meaning.specs.Small.{is_small_stmt, is_small_block, is_small_returned, small_in_kind, small_in_stmt}
use Rattle.small_typing.proofs.Clean.{Clean, unless_holds}
use Rattle.small_typing.proofs.Naming.{Here}
use Rattle.small_typing.proofs.Expressions.{term_kept}
use Rattle.small_typing.proofs.Statements.{smalls_in, parts_in, stmt_stands, leads_somewhere, then_keeps}

-- the type of the result of a method over whole numbers
abbrev pub type_if : Bool → Option PvType
type_if true = Some Int
type_if false = None

-- where a body's last statement stands
abbrev at_end : StatementContext
at_end = record (at_body true) { last = true }

part_layer : (x : Stmt) → checked_statement x ≡ checked_in_statement
    (record { span = x.span; kind = checked_in_statement_kind (parts_in (out-StmtKind x.kind)) })
part_layer x =
    fold_out-Stmt CheckedStatementKind CheckedStatement checked_in_statement_kind checked_in_statement x
    ∙ ap (λ (k : CheckedStatementKind). checked_in_statement (record { span = x.span; kind = k }))
    (fold_out-StmtKind CheckedStatementKind CheckedStatement checked_in_statement_kind checked_in_statement x.kind)

small_layer : (x : Stmt) → is_small_stmt x ≡ small_in_kind (smalls_in (out-StmtKind x.kind))
small_layer x = fold_out-Stmt Bool Bool small_in_kind small_in_stmt x
    ∙ fold_out-StmtKind Bool Bool small_in_kind small_in_stmt x.kind

no_result : (b : Bool) → not (is_some (type_if b)) ≡ true → not b ≡ true
no_result true h = h
no_result false h = h

a_result : (b : Bool) → is_some (type_if b) ≡ true → b ≡ true
a_result true h = h
a_result false h = h

needs_int : (b : Bool) → b ≡ true → need_of_result (type_if b) ≡ Exactly Int
needs_int true h = refl
needs_int false h = cc

-- a `return` that ends a body
return_kept : (has_result : Bool) (value : Option Expr) (s : Scope) (a : Environment) (v : Visible) (span : Span)
    → is_small_returned value ≡ true → Here a v false s false → a.result ≡ type_if has_result
    → Clean ((checked_in_statement_kind (parts_in (StmtKind-F.Return value))).faults span a v at_end)
    → is_return_value has_result value s ≡ true
return_kept b None s a v span small here result clean =
    no_result b (subst (λ (r : Option PvType). not (is_some r) ≡ true) result
    (unless_holds (not (is_some a.result)) rule.ReturnPlace span clean.0))
return_kept b (Some e) s a v span small here result clean =
    let placed = a_result b (subst (λ (r : Option PvType). is_some r ≡ true) result
    (unless_holds (is_some a.result) rule.ReturnPlace span clean.0)) in
    and_from b (is_term s e) placed (term_kept s e a v (need_of_result a.result) small here
    (ap need_of_result result ∙ needs_int b placed) clean.1)

-- where no `return e;` ends a body
ends_without : (b e : Bool) → e ≡ false → (b && not e) ≡ false → not b ≡ true
ends_without true e h k = let f = ap not h in cc
ends_without false e h k = refl

other_kept : (has_result : Bool) (x : Stmt) (s : Scope) (a : Environment) (v : Visible) → is_small_stmt x ≡ true
    → Here a v false s false → (has_result && not false) ≡ false → Clean ((checked_statement x).faults a v (at_body true))
    → (not has_result && is_some (scope_behind x s)) ≡ true
other_kept b x s a v small here ends clean =
    and_from (not b) (is_some (scope_behind x s)) (ends_without b false refl ends)
    (leads_somewhere a ((checked_statement x).behind v) (scope_behind x s)
    ((stmt_stands x).stands small a v (at_body true) s here refl clean))

last_at : (has_result : Bool) (x : Stmt) (s : Scope) (a : Environment) (v : Visible) (k : StmtKind-F StmtKind Stmt)
    → out-StmtKind x.kind ≡ k → is_small_stmt x ≡ true → small_in_kind (smalls_in k) ≡ true → Here a v false s false → a.result
    ≡ type_if has_result
    → (has_result && not (is_value_return k)) ≡ false → Clean ((checked_in_statement_kind (parts_in k)).faults x.span a v at_end)
    → (Clean ((checked_in_statement_kind (parts_in k)).faults x.span a v (at_body true))
    → Clean ((checked_statement x).faults a v (at_body true))) → is_last_kind has_result k x s ≡ true
last_at b x s a v (StmtKind-F.Return value) is small form here result ends clean again =
    return_kept b value s a v x.span form here result clean
last_at b x s a v (StmtKind-F.Local type w value) is small form here result ends clean again =
    other_kept b x s a v small here ends (again clean)
last_at b x s a v (StmtKind-F.Assign place value) is small form here result ends clean again =
    other_kept b x s a v small here ends (again clean)
last_at b x s a v (StmtKind-F.If condition first second) is small form here result ends clean again =
    other_kept b x s a v small here ends (again clean)
last_at b x s a v (StmtKind-F.Assert formula) is small form here result ends clean again =
    other_kept b x s a v small here ends (again clean)
last_at b x s a v _ is small form here result ends clean again = absurd (cc)

-- the last statement of a body
last_kept : (has_result : Bool) (x : Stmt) (s : Scope) (a : Environment) (v : Visible) → is_small_stmt x ≡ true
    → Here a v false s false → a.result ≡ type_if has_result
    → (has_result && not (ends_with_value (x ∷ []))) ≡ false → Clean ((checked_statement x).faults a v at_end)
    → is_last has_result x s ≡ true
last_kept b x s a v small here result ends clean =
    let form = sym (small_layer x) ∙ small in
    let part = part_layer x in
    last_at b x s a v (out-StmtKind x.kind) refl small form here result ends
    (subst (λ (p : CheckedStatement). Clean (p.faults a v at_end)) part clean)
    (λ again. subst (λ (p : CheckedStatement). Clean (p.faults a v (at_body true))) (sym part) again)

-- a small body without a fault
pub body_kept : (has_result : Bool) (block : List Stmt) (s : Scope) (a : Environment) (v : Visible) → is_small_block block ≡ true
    → Here a v false s false → a.result ≡ type_if has_result
    → (has_result && not (ends_with_value block)) ≡ false → Clean (faults_of_body (parts_of_block block) a v (at_body true))
    → is_body has_result block s ≡ true
body_kept b [] s a v small here result ends clean = ends_without b false refl ends
body_kept b (x ∷ []) s a v small here result ends clean =
    last_kept b x s a v (and_parts (is_small_stmt x) true small).0 here result ends clean.0
body_kept b (x ∷ y ∷ more) s a v small here result ends clean =
    let f = and_parts (is_small_stmt x) (is_small_block (y ∷ more)) small in
    then_keeps a ((checked_statement x).behind v) (scope_behind x s) (is_body b (y ∷ more))
    ((stmt_stands x).stands f.0 a v (at_body true) s here refl clean.0)
    (λ t there. body_kept b (y ∷ more) t a ((checked_statement x).behind v) f.1 there result ends clean.1)
