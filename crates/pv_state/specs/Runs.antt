-- The parts of a run that calls do on symbols, each from the stores, and from what was made and turned so far.
use Rattle.std.specs.Prelude.{ℕ, ◌-ℤ◌, Bool, List, Option, None}
use Rattle.pv_base.specs.declared.Span.{Span}
use Rattle.pv_picks.specs.Plain.Core as core
use Rattle.pv_picks.specs.declared.plain.Expression.{Expression}
use Rattle.pv_picks.specs.declared.plain.Manner.{Manner}
use Rattle.pv_picks.specs.declared.plain.Comparison.{Comparison}
use Rattle.pv_picks.specs.Formulas.Values.{number_in}
use Rattle.pv_picks.specs.declared.check.Check.{Check}
use Rattle.pv_picks.specs.declared.plain.Formula.{Formula}
use Rattle.pv_picks.specs.Judge.States.{Bind, cells_of, empty_state}
use Rattle.pv_picks.specs.Judge.Exhaling.{Giving}
use Rattle.pv_picks.specs.Judge.Runs.{Blocked, Failed}
use Rattle.pv_state.specs.declared.formulas.Outcome.{Outcome}
use Rattle.pv_state.specs.declared.formulas.Outcome.TheVariants as outcome
use Rattle.pv_picks.specs.Judge.Settings.{operate}
use Rattle.pv_linear.specs.declared.Sort.{Sort}
use Rattle.pv_state.specs.declared.operands.Operand.{Operand}
use Rattle.pv_state.specs.declared.operands.Operand.TheVariants as operand
use Rattle.pv_state.specs.declared.operands.Reading.{Reading}
use Rattle.pv_state.specs.declared.operands.Reading.TheVariants as reading
use Rattle.pv_state.specs.Values.{IsMade, IsTerm, value_at}
use Rattle.pv_values.specs.declared.value.Value.{Value}
use Rattle.pv_values.specs.declared.value.Value.TheVariants as value
use Rattle.pv_picks.specs.declared.plain.Operation.{Operation}
use Rattle.pv_picks.specs.Plain.Trees.{operation_of, manner_of, comparison_of, expression_of, formula_of}
use Rattle.pv_picks.specs.Lazy.Parts.{Came, Stopped, Part, Ran, gone, hooks, run_expression, run_inhale, run_exhale}
use Rattle.pv_picks.specs.Lazy.Parts as parts
use Rattle.pv_picks.specs.Lazy.Runs.{Ends, from_values, operation_or}
use Rattle.pv_linear.specs.declared.Term.{Term}
use Rattle.pv_linear.specs.Values.{Values, term_value}
use Rattle.pv_linear.specs.Evidence.{Evidence}
use Rattle.pv_state.specs.declared.scene.SymbolScene.{SymbolScene}
use Rattle.pv_state.specs.declared.scene.Stores.{Stores}
use Rattle.pv_state.specs.States.{scene_at, state_at, memory_at, drawn_at, went_at}

-- a part, begun with these stores, after so many values and turns
abbrev pub begun : {A : Type 0} → (Evidence → Part A) → SymbolScene → Stores → ℕ → ℕ → Evidence → Ran A
begun part own stores taken turned e = part e (state_at e.values own stores) (memory_at e.values stores) (drawn_at taken turned)

-- operands

abbrev pub operand_at : Values → Operand → Value
operand_at v (operand.One x) = value_at v x
operand_at v (operand.Difference a b) = value.Number (term_value v a -ℤ term_value v b)

abbrev pub IsMadeOperand : List Sort → Operand → Type 0
IsMadeOperand made (operand.One x) = IsMade made x
IsMadeOperand made (operand.Difference a b) = IsTerm made a × IsTerm made b

-- nothing is held: what a formula reads is what no state holds
abbrev pub reading_at : Reading → parts.Reading
reading_at reading.Body = parts.InBody
reading_at reading.Inhaled = parts.InFormula cells_of (λ s. cells_of empty_state)
reading_at reading.Exhaled = parts.InFormula (λ s. cells_of empty_state) (λ s. cells_of empty_state)

-- the value of an expression, in a scene of its own
abbrev pub run_value : Reading → SymbolScene → Expression → Evidence → Part Value
run_value r scene x e = run_expression e.values e.turns (reading_at r) (scene_at e.values scene) (expression_of x)

abbrev pub run_plain : Reading → SymbolScene → core.Expression → Evidence → Part Value
run_plain r scene x e = run_expression e.values e.turns (reading_at r) (scene_at e.values scene) x

abbrev pub run_not : Reading → SymbolScene → Expression → Evidence → Part Value
run_not r scene a = run_plain r scene (core.Not (expression_of a))

abbrev pub run_compute : Reading → SymbolScene → Manner → Operation → Expression → Expression → Span → Evidence → Part Value
run_compute r scene manner operation a b span =
    run_plain r scene (core.Compute (manner_of manner) (operation_of operation) (expression_of a) (expression_of b) span)

abbrev pub run_compare : Reading → SymbolScene → Comparison → Expression → Expression → Evidence → Part Value
run_compare r scene order a b = run_plain r scene (core.Compare (comparison_of order) (expression_of a) (expression_of b))

abbrev pub run_equal : Reading → SymbolScene → Bool → Expression → Expression → Evidence → Part Value
run_equal r scene same a b = run_plain r scene (core.Equal same (expression_of a) (expression_of b))

abbrev pub run_and : Reading → SymbolScene → Expression → Expression → Evidence → Part Value
run_and r scene a b = run_plain r scene (core.And (expression_of a) (expression_of b))

abbrev pub run_or : Reading → SymbolScene → Expression → Expression → Evidence → Part Value
run_or r scene a b = run_plain r scene (core.Or (expression_of a) (expression_of b))

abbrev pub run_implies : Reading → SymbolScene → Expression → Expression → Evidence → Part Value
run_implies r scene a b = run_plain r scene (core.Implies (expression_of a) (expression_of b))

-- how a part came out that has no value: it goes on, or the run has ended
abbrev pub came_at : Evidence → SymbolScene → Stores → Outcome → ℕ → ℕ → Came (Unit {0})
came_at e own stores outcome.Goes taken turned = went_at e own stores tt taken turned
came_at e own stores outcome.Blocked taken turned = Stopped (Ends Blocked) (memory_at e.values stores)
came_at e own stores (outcome.Failed check span) taken turned = Stopped (Ends (Failed check span)) (memory_at e.values stores)

-- nothing is held in the old state either
abbrev pub bind_at : SymbolScene → Evidence → Bind
bind_at scene e = record { scene = scene_at e.values scene; old = cells_of empty_state }

abbrev pub giving_at : SymbolScene → Check → Option Span → Evidence → Giving
giving_at scene check statement e =
    record { bind = bind_at scene e; before = cells_of empty_state; check = check; statement = statement }

-- a formula is inhaled, and is exhaled
abbrev pub take : SymbolScene → core.Formula → Evidence → Part (Unit {0})
take scene x e = run_inhale e.values e.turns (bind_at scene e) x

abbrev pub give : SymbolScene → Check → Option Span → core.Formula → Evidence → Part (Unit {0})
give scene check statement x e = run_exhale e.values e.turns (giving_at scene check statement e) x

abbrev pub run_taken : SymbolScene → Formula → Evidence → Part (Unit {0})
run_taken scene x = take scene (formula_of x)

abbrev pub run_given : SymbolScene → Check → Option Span → Formula → Evidence → Part (Unit {0})
run_given scene check statement x = give scene check statement (formula_of x)

-- a pure condition, two formulas, and a formula under a condition
abbrev pub fact_of : Expression → Span → core.Formula
fact_of x span = core.Fact (expression_of x) span

abbrev pub star_of : Formula → Formula → core.Formula
star_of a b = core.Star (formula_of a) (formula_of b)

abbrev pub when_of : Expression → Formula → Span → core.Formula
when_of x body span = core.When (expression_of x) (formula_of body) span

-- what an operation of two values gives
abbrev pub run_operation : Manner → Operation → Operand → Operand → Span → Evidence → Part Value
run_operation manner operation a b span e = operate (hooks e.values e.turns) (manner_of manner) (operation_of operation)
    (number_in (operand_at e.values a)) (number_in (operand_at e.values b)) span (λ z. gone (value.Number z))

-- the value of a use of a tabled operation
abbrev pub run_use : Operation → Term → Term → Evidence → Part Value
run_use operation a b e state = (hooks e.values e.turns).using (operation_of operation) (term_value e.values a)
    (term_value e.values b) (λ z. gone (value.Number z) state)

-- the value of one that was not used before
abbrev pub run_new_use : Operation → Term → Term → Evidence → Part Value
run_new_use operation a b e state = operation_or Stopped (from_values e.values e.turns) None (operation_of operation)
    (term_value e.values a) (term_value e.values b) (λ z. gone (value.Number z) state)
