-- The last statement of a body.
use Rattle.std.proofs.Common.{◌≡◌, ℕ, ◌+◌, ◌<◌, nat_eq, Option, List, [], ◌∷◌, ◌++◌, length, drop, get_or, refl, sym, ◌∙◌, ap, arith, length-drop}
use Rattle.std.proofs.lemmas.List.{at_drop_more}
use Rattle.pv_ast.specs.declared.Stmt.{Stmt}
use Rattle.pv_ast.specs.declared.StmtKind.{out-StmtKind}
use Rattle.pv_ast.specs.declared.fault.Fault.{Fault}
use Rattle.pv_ast.specs.declared.standing.StatementContext.{StatementContext}
use Rattle.pv_ast.specs.Rules.Faults.{least}
use Rattle.pv_ast.specs.Rules.Scoping.{Visible}
use Rattle.pv_ast.specs.Rules.Expressions.{Environment}
use Rattle.pv_ast.specs.Rules.Statements.{checked_statement, parts_of_block, faults_of_body, is_nothing}
use Rattle.pv_ast.specs.Rules.Programs.{ends_with_value, is_value_return}

ends_by_last : (front : List Stmt) (last : Stmt) → ends_with_value (front ++ last ∷ []) ≡ is_value_return (out-StmtKind last.kind)
ends_by_last [] last = refl
ends_by_last (s ∷ []) last = refl
ends_by_last (s ∷ t ∷ front) last = ends_by_last (t ∷ front) last

pub ends_at : (body front : List Stmt) (last : Stmt) → body ≡ front ++ last ∷ []
    → ends_with_value body ≡ is_value_return (out-StmtKind last.kind)
ends_at body front last e = ap ends_with_value e ∙ ends_by_last front last

nothing_by_length : (xs : List Stmt) (left : ℕ) → left ≡ length xs → is_nothing (parts_of_block xs) ≡ nat_eq left 0
nothing_by_length [] left e = rw e refl
nothing_by_length (x ∷ xs) left e = rw e (grind arith)

pub nothing_left : (body : List Stmt) (at left : ℕ) → left + (at + 1) ≡ length body
    → is_nothing (parts_of_block (drop (at + 1) body)) ≡ nat_eq left 0
nothing_left body at left e = nothing_by_length (drop (at + 1) body) left (omega (arith, length-drop (at + 1) body))

pub body_next : (body : List Stmt) (at : ℕ) (s : Stmt) (a : Environment) (v : Visible) (stand : StatementContext)
    (first : Option Fault)
    → at < length body → s ≡ get_or body at s
    → least first (faults_of_body (parts_of_block (drop at body)) a v stand)
    ≡ least (least first ((checked_statement s).faults a v
    (record stand { last = is_nothing (parts_of_block (drop (at + 1) body)) })))
    (faults_of_body (parts_of_block (drop (at + 1) body)) a ((checked_statement s).behind v) stand)
body_next body at s a v stand first l h =
    at_drop_more (λ xs. least first (faults_of_body (parts_of_block xs) a v stand)) body at s l
    ∙ ap (λ x. least first (faults_of_body (parts_of_block (x ∷ drop (at + 1) body)) a v stand)) (sym h)
