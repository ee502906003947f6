-- What symbolic variables and ends stand for, where the symbols have values.
use Rattle.std.specs.Prelude.{ℕ, ◌*◌, ◌^◌, max, ℤ, pos, unsigned_abs, Bool, true, false, Option, Some, None, List, [], ◌∷◌}
use Rattle.std.specs.Ordering.{nat_cmp}
use Rattle.std.specs.Map.{lookup}
use Rattle.std.specs.BTreeMap.{is_at}
use Rattle.pv_ast.specs.declared.Operator.{Operator}
use Rattle.pv_ast.specs.declared.Operator.TheVariants as op
use Rattle.pv_linear.specs.declared.Term.{Term}
use Rattle.pv_linear.specs.Values.{Values, term_value}
use Rattle.small_meaning.specs.Values.{Variables, Scene}
use Rattle.small_meaning.specs.Running.{Outcome, going, returned, failed, is_precondition, is_postcondition}
use Rattle.pv_ast.specs.declared.ClauseKind.{ClauseKind}
use Rattle.small_verdicts.specs.declared.method.Condition.{Condition}
use Rattle.small_verdicts.specs.declared.method.Condition.TheVariants.{Before, After}
use Rattle.small_verdicts.specs.Grounded.{check_of}
use Rattle.small_verdicts.specs.declared.running.Flow.{Flow}
use Rattle.small_verdicts.specs.declared.running.Flow.TheVariants.{Going, Returned, Failed}

-- the entries of a store: the name of each variable, and its term
abbrev pub Entries : Type 0
Entries = List (ℕ × Term)

abbrev pub value_or_zero : Values → Option Term → ℤ
value_or_zero v None = pos 0
value_or_zero v (Some t) = term_value v t

-- the variables that the entries stand for; a name without an entry has 0
unfoldable pub variables_of : Values → Entries → Variables
variables_of v es name = value_or_zero v (lookup (is_at (nat_cmp name)) es)

-- where an expression stands
abbrev pub scene_at : Values → Entries → Term → Scene
scene_at v es result_term = record { variables = variables_of v es; result = term_value v result_term }

-- how far the terms are from their symbols
abbrev pub size_of : Entries → ℕ
size_of [] = 0
size_of (e ∷ es) = max (unsigned_abs e.1.plus) (size_of es)

-- how far so many literals may move a term
abbrev pub weight : ℕ → ℕ
weight n = 2 ^ 64 * n

-- what a symbolic end stands for
abbrev pub outcome_of : Values → Flow → Entries → Outcome
outcome_of v Going es = going (variables_of v es)
outcome_of v (Returned t) es = returned (term_value v t)
outcome_of v (Failed check span) es = failed (check_of check) span

-- the operators that make numbers
abbrev pub is_sum : Operator → Bool
is_sum op.Add = true
is_sum op.Sub = true
is_sum _ = false

-- the operators that compare the order of numbers
abbrev pub is_order : Operator → Bool
is_order op.Lt = true
is_order op.Le = true
is_order op.Gt = true
is_order op.Ge = true
is_order _ = false

-- how far the term of a returned number is from its symbol
abbrev pub flow_size : Flow → ℕ
flow_size Going = 0
flow_size (Returned t) = unsigned_abs t.plus
flow_size (Failed check span) = 0

-- which clauses belong to a condition
abbrev pub chosen_by : Condition → ClauseKind → Bool
chosen_by Before = is_precondition
chosen_by After = is_postcondition
