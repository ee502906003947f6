-- Where no run of a method fails, no thread that begins it comes to a wrong step.
use Rattle.std.proofs.Common.{ℕ, zero, suc, ◌≡◌, ℤ, pos, Bool, true, false, cond, Option, Some, None, List, [], ◌∷◌, ◌++◌, refl, sym, ap, ◌∙◌, subst}
use Rattle.pv_base.specs.declared.Span.{Span}
use Rattle.pv_ast.specs.declared.Stmt.{Stmt, fold_out-Stmt}
use Rattle.pv_ast.specs.declared.StmtKind.{StmtKind, StmtKind-F, out-StmtKind, fold_out-StmtKind, map-StmtKind}
use Rattle.pv_ast.specs.declared.Method.{Method}
use Rattle.small_meaning.specs.Values.{Variables, broken_of}
use Rattle.small_meaning.specs.Running.{Arguments, Outcome, going, returned, failed, assert_check, ensures_check, and_then, run_in_kind, run_in_stmt, run_of_stmt, run_of_stmt_kind, run_of_block, checked_end, failed_at, NeverFails, broken_postcondition, scene_of, is_true}
use Rattle.pv_ast.specs.declared.Program.{Program}
use Rattle.small_meaning.specs.Machine.{Thread, working, returning, ended, thread_at_start, thread_behind, moved, after_moves, label_at, IsWrong, IsWrongAt, IsSafe}
use Rattle.small_meaning.specs.Grounds.{NoRunFails}

-- one layer of a statement, with the runs of what stands in it
abbrev runs_in : StmtKind-F StmtKind Stmt → StmtKind-F (Variables → Outcome) (Variables → Outcome)
runs_in = map-StmtKind StmtKind Stmt (Variables → Outcome) (Variables → Outcome) run_of_stmt_kind run_of_stmt

kind_runs : (k : StmtKind) → run_of_stmt_kind k ≡ run_in_kind (runs_in (out-StmtKind k))
kind_runs = fold_out-StmtKind (Variables → Outcome) (Variables → Outcome) run_in_kind run_in_stmt

stmt_runs : (s : Stmt) → run_of_stmt s ≡ run_of_stmt_kind s.kind
stmt_runs = fold_out-Stmt (Variables → Outcome) (Variables → Outcome) run_in_kind run_in_stmt

stmt_layer : (s : Stmt) (variables : Variables) → run_of_stmt s variables ≡ run_in_kind (runs_in (out-StmtKind s.kind)) variables
stmt_layer s variables = ap (λ (run : Variables → Outcome). run variables) (stmt_runs s ∙ kind_runs s.kind)

and_then_assoc : (o : Outcome) (f g : Variables → Outcome) → and_then (and_then o f) g ≡ and_then o (λ v. and_then (f v) g)
and_then_assoc (going v) f g = refl
and_then_assoc (returned z) f g = refl
and_then_assoc (failed check span) f g = refl

-- the runs of two blocks, one after the other
run_each-append : (xs ys : List Stmt) (variables : Variables) → run_of_block (xs ++ ys) variables
    ≡ and_then (run_of_block xs variables) (run_of_block ys)
run_each-append [] ys variables = refl
run_each-append (x ∷ xs) ys variables =
    let step : (v : Variables) → run_of_block (xs ++ ys) v ≡ and_then (run_of_block xs v) (run_of_block ys) =
    run_each-append xs ys in
    let go : (o : Outcome) → and_then o (run_of_block (xs ++ ys)) ≡ and_then (and_then o (run_of_block xs)) (run_of_block ys) =
    elim [ going v ↦ step v | returned z ↦ refl | failed check span ↦ refl ] in
    go (run_of_stmt x variables)

-- how the rest of a thread's run ends
abbrev pub rest_of : Method → Arguments → Thread → Outcome
rest_of m arguments (working variables tasks) = checked_end m arguments (run_of_block tasks variables)
rest_of m arguments (returning z) = checked_end m arguments (returned z)
rest_of m arguments ended = returned (pos 0)

behind_if : (m : Method) (arguments : Arguments) (first second rest : List Stmt) (variables : Variables) (b : Bool)
    → NeverFails
    (checked_end m arguments (and_then (cond b (run_of_block first variables) (run_of_block second variables))
    (run_of_block rest)))
    → NeverFails (rest_of m arguments (cond b (working variables (first ++ rest)) (working variables (second ++ rest))))
behind_if m arguments first second rest variables true h =
    subst (λ o. NeverFails (checked_end m arguments o)) (sym (run_each-append first rest variables)) h
behind_if m arguments first second rest variables false h =
    subst (λ o. NeverFails (checked_end m arguments o)) (sym (run_each-append second rest variables)) h

behind_assert : (m : Method) (arguments : Arguments) (rest : List Stmt) (variables : Variables) (o : Option Span)
    → NeverFails (checked_end m arguments (and_then (failed_at assert_check o (going variables)) (run_of_block rest)))
    → NeverFails (checked_end m arguments (run_of_block rest variables)) × (o ≡ None)
behind_assert m arguments rest variables None h = (h, refl)
behind_assert m arguments rest variables (Some span) h = absurd (h assert_check span refl)

-- what a thread does behind a statement fails no more than the statement and the rest do
behind : (m : Method) (arguments : Arguments) (rest : List Stmt) (variables : Variables) (k : StmtKind-F StmtKind Stmt)
    → NeverFails (checked_end m arguments (and_then (run_in_kind (runs_in k) variables) (run_of_block rest)))
    → NeverFails (rest_of m arguments (thread_behind k variables rest))
behind m arguments rest variables (StmtKind-F.If condition first second) h =
    behind_if m arguments first second rest variables (is_true condition variables) h
behind m arguments rest variables (StmtKind-F.Assert formula) h =
    (behind_assert m arguments rest variables (broken_of formula (scene_of variables)) h).0
behind m arguments rest variables _ h = h

-- a statement at which a check stands holds there
label_holds : (m : Method) (arguments : Arguments) (rest : List Stmt) (variables : Variables) (k : StmtKind-F StmtKind Stmt)
    → NeverFails (checked_end m arguments (and_then (run_in_kind (runs_in k) variables) (run_of_block rest)))
    → IsWrongAt m arguments (label_at k variables) → ⊥
label_holds m arguments rest variables (StmtKind-F.Assert formula) h wrong =
    wrong (behind_assert m arguments rest variables (broken_of formula (scene_of variables)) h).1
label_holds m arguments rest variables _ h wrong = wrong

at_layer : (m : Method) (arguments : Arguments) (rest : List Stmt) (variables : Variables) (s : Stmt)
    → NeverFails (rest_of m arguments (working variables (s ∷ rest)))
    → NeverFails (checked_end m arguments (and_then (run_in_kind (runs_in (out-StmtKind s.kind)) variables) (run_of_block rest)))
at_layer m arguments rest variables s h = subst (λ o. NeverFails (checked_end m arguments (and_then o (run_of_block rest))))
    (stmt_layer s variables) h

moved_fine : (m : Method) (arguments : Arguments) (t : Thread) → NeverFails (rest_of m arguments t)
    → NeverFails (rest_of m arguments (moved t))
moved_fine m arguments (working variables []) h = h
moved_fine m arguments (working variables (s ∷ rest)) h =
    behind m arguments rest variables (out-StmtKind s.kind) (at_layer m arguments rest variables s h)
moved_fine m arguments (returning z) h = λ check span e. cc
moved_fine m arguments ended h = h

-- a check at the end fails where the postcondition isn't met
end_holds : (o : Option Span) (z : ℤ) → NeverFails (failed_at ensures_check o (returned z)) → o ≡ None
end_holds None z h = refl
end_holds (Some span) z h = absurd (h ensures_check span refl)

not_wrong : (m : Method) (arguments : Arguments) (t : Thread) → NeverFails (rest_of m arguments t) → IsWrong m arguments t → ⊥
not_wrong m arguments (working variables []) h wrong = wrong
not_wrong m arguments (working variables (s ∷ rest)) h wrong =
    label_holds m arguments rest variables (out-StmtKind s.kind) (at_layer m arguments rest variables s h) wrong
not_wrong m arguments (returning z) h wrong = wrong (end_holds (broken_postcondition m arguments z) z h)
not_wrong m arguments ended h wrong = wrong

pub never_wrong : (m : Method) (arguments : Arguments) (n : ℕ) (t : Thread) → NeverFails (rest_of m arguments t)
    → IsWrong m arguments (after_moves n t) → ⊥
never_wrong m arguments zero t h = not_wrong m arguments t h
never_wrong m arguments (suc n) t h = never_wrong m arguments n (moved t) (moved_fine m arguments t h)

pub safe_program : (p : Program) → NoRunFails p → IsSafe p
safe_program p fine m is arguments meets n wrong =
    never_wrong m arguments n (thread_at_start m arguments) (fine m is arguments meets) wrong
