-- The run of a method from its arguments to its end, as one structural run: what verdicts speak of.
use Rattle.std.specs.Prelude.{ℕ, suc, ◌≡◌, ℤ, pos, Bool, true, false, if◌then◌else◌, nat_eq, Option, Some, None, List, [], ◌∷◌, map}
use Rattle.pv_base.specs.declared.Span.{Span}
use Rattle.pv_ast.specs.declared.Expr.{Expr}
use Rattle.pv_ast.specs.declared.ExprKind.{ExprKind}
use Rattle.pv_ast.specs.declared.ExprKind.TheVariants as kind
use Rattle.pv_ast.specs.declared.Right.{Right}
use Rattle.pv_ast.specs.declared.RightKind.{RightKind}
use Rattle.pv_ast.specs.declared.RightKind.TheVariants as right
use Rattle.pv_ast.specs.declared.Stmt.{Stmt, Stmt-F, fold-Stmt}
use Rattle.pv_ast.specs.declared.StmtKind.{StmtKind, StmtKind-F, fold-StmtKind}
use Rattle.pv_ast.specs.declared.Param.{Param}
use Rattle.pv_ast.specs.declared.Clause.{Clause}
use Rattle.pv_ast.specs.declared.ClauseKind.{ClauseKind}
use Rattle.pv_ast.specs.declared.ClauseKind.TheVariants.{Requires, Ensures, Context}
use Rattle.pv_ast.specs.declared.Method.{Method}
use Rattle.small_meaning.specs.Values.{Variables, Scene, number_in, truth_in, value_of, broken_of, first_of_two}

-- the variables with one of them changed
abbrev pub with_variable : Variables → ℕ → ℤ → Variables
with_variable variables name z = λ other. if nat_eq other name then z else variables other

-- the number at the place of each parameter
abbrev pub Arguments : Type 0
Arguments = ℕ → ℤ

abbrev pub with_parameters : Variables → List Param → ℕ → Arguments → Variables
with_parameters variables [] place arguments = variables
with_parameters variables (p ∷ ps) place arguments =
    with_parameters (with_variable variables p.name.name.0 (arguments place)) ps (suc place) arguments

-- each parameter has its argument
abbrev pub variables_at_start : List Param → Arguments → Variables
variables_at_start params arguments = with_parameters (λ name. pos 0) params 0 arguments

-- a scene outside a postcondition, where no result is
abbrev pub scene_of : Variables → Scene
scene_of variables = record { variables = variables; result = pos 0 }

abbrev pub number_of_expr : Expr → Variables → ℤ
number_of_expr e variables = number_in (value_of e (scene_of variables))

abbrev pub is_true : Expr → Variables → Bool
is_true e variables = truth_in (value_of e (scene_of variables))

-- the number of a right side
abbrev pub number_of_right_kind : RightKind → Variables → ℤ
number_of_right_kind (right.Value e) variables = number_of_expr e variables
number_of_right_kind (right.Call target name args) variables = pos 0
number_of_right_kind (right.NewObject name) variables = pos 0
number_of_right_kind (right.NewArray kind length) variables = pos 0

-- a declaration without a value gives 0
abbrev pub first_number : Option Right → Variables → ℤ
first_number None variables = pos 0
first_number (Some r) variables = number_of_right_kind r.kind variables

-- the variables after an assignment to a place
abbrev pub assigned_to : ExprKind → Variables → ℤ → Variables
assigned_to (kind.Var w) variables z = with_variable variables w.name.0 z
assigned_to _ variables z = variables

-- the two kinds of checks of small programs
pub data Check : Type 0 where
  assert_check : Check
  ensures_check : Check

-- how a part of a method's body ends: it goes on, the method returns, or a check finds a conjunct that is not true
pub data Outcome : Type 0 where
  going : Variables → Outcome
  returned : ℤ → Outcome
  failed : Check → Span → Outcome

abbrev pub and_then : Outcome → (Variables → Outcome) → Outcome
and_then (going variables) next = next variables
and_then (returned z) next = returned z
and_then (failed check span) next = failed check span

-- one run after the other
abbrev pub run_each : List (Variables → Outcome) → Variables → Outcome
run_each [] variables = going variables
run_each (run ∷ more) variables = and_then (run variables) (run_each more)

abbrev pub failed_at : Check → Option Span → Outcome → Outcome
failed_at check None otherwise = otherwise
failed_at check (Some span) otherwise = failed check span

abbrev pub result_number : Option Expr → Variables → ℤ
result_number None variables = pos 0
result_number (Some e) variables = number_of_expr e variables

-- one statement, with the runs of the blocks in it
abbrev pub run_in_kind : StmtKind-F (Variables → Outcome) (Variables → Outcome) → Variables → Outcome
run_in_kind (StmtKind-F.Local t name value) variables = going (with_variable variables name.name.0 (first_number value variables))
run_in_kind (StmtKind-F.Assign place value) variables =
    going (assigned_to place.kind variables (number_of_right_kind value.kind variables))
run_in_kind (StmtKind-F.If condition first second) variables = if is_true condition variables then run_each first variables else
    run_each second variables
run_in_kind (StmtKind-F.Assert formula) variables =
    failed_at assert_check (broken_of formula (scene_of variables)) (going variables)
run_in_kind (StmtKind-F.Return value) variables = returned (result_number value variables)
run_in_kind _ variables = going variables

abbrev pub run_in_stmt : Stmt-F (Variables → Outcome) (Variables → Outcome) → Variables → Outcome
run_in_stmt s = s.kind

abbrev pub run_of_stmt : Stmt → Variables → Outcome
run_of_stmt = fold-Stmt (Variables → Outcome) (Variables → Outcome) run_in_kind run_in_stmt

abbrev pub run_of_stmt_kind : StmtKind → Variables → Outcome
run_of_stmt_kind = fold-StmtKind (Variables → Outcome) (Variables → Outcome) run_in_kind run_in_stmt

abbrev pub run_of_block : List Stmt → Variables → Outcome
run_of_block block = run_each (map run_of_stmt block)

abbrev pub is_precondition : ClauseKind → Bool
is_precondition Requires = true
is_precondition Ensures = false
is_precondition Context = true

abbrev pub is_postcondition : ClauseKind → Bool
is_postcondition Requires = false
is_postcondition Ensures = true
is_postcondition Context = true

-- the first conjunct that is not true of the clauses that are chosen, in their order
abbrev pub broken_clause : (ClauseKind → Bool) → List Clause → Scene → Option Span
broken_clause chosen [] s = None
broken_clause chosen (c ∷ cs) s = if chosen c.kind then first_of_two (broken_of c.formula s) (broken_clause chosen cs s) else
    broken_clause chosen cs s

abbrev pub broken_precondition : Method → Arguments → Option Span
broken_precondition m arguments = broken_clause is_precondition m.contract.clauses
    (scene_of (variables_at_start m.params arguments))

-- the arguments meet the precondition
abbrev pub Meets : Method → Arguments → Type 0
Meets m arguments = broken_precondition m arguments ≡ None

-- the postcondition speaks of the arguments and of the result
abbrev pub broken_postcondition : Method → Arguments → ℤ → Option Span
broken_postcondition m arguments z = broken_clause is_postcondition m.contract.clauses
    (record { variables = variables_at_start m.params arguments; result = z })

-- the end of a run: the postcondition is checked
abbrev pub checked_end : Method → Arguments → Outcome → Outcome
checked_end m arguments (going variables) = failed_at ensures_check (broken_postcondition m arguments (pos 0)) (returned (pos 0))
checked_end m arguments (returned z) = failed_at ensures_check (broken_postcondition m arguments z) (returned z)
checked_end m arguments (failed check span) = failed check span

-- the run of a method on arguments
abbrev pub run_of : Method → Arguments → Outcome
run_of m arguments = checked_end m arguments (run_of_block m.body (variables_at_start m.params arguments))

-- an outcome in which no check fails
abbrev pub NeverFails : Outcome → Type 0
NeverFails o = (check : Check) (span : Span) → o ≡ failed check span → ⊥
