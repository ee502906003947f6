-- A frame of a thread and its local work, which takes no step: it belongs to the step before it.
use Rattle.std.specs.Prelude.{ℕ, zero, suc, Bool, not, if◌then◌else◌, Option, Some, None, unwrap_or, List, [], ◌∷◌, get_or, take, drop, reverse}
use Rattle.pv_base.specs.declared.Name.{Name}
use Rattle.pv_values.specs.declared.value.Value.{Value}
use Rattle.pv_values.specs.declared.value.Value.TheVariants as value
use Rattle.pv_values.specs.declared.value.Location.{Location}
use Rattle.pv_values.specs.declared.value.Location.TheVariants as location
use Rattle.pv_picks.specs.declared.check.Check.TheVariants as check
use Rattle.pv_picks.specs.Plain.Core.{Expression, Constant, This, Result, Variable, Stop, Then, Parameter, Method}
use Rattle.pv_picks.specs.Formulas.Values.{Variables, number_in, truth_in, reference_in, arithmetic, comparison, equality, with_variable, with_arguments, no_variables}
use Rattle.pv_picks.specs.Formulas.Evaluation.{Scene}
use Rattle.pv_picks.specs.Formulas.Heaps.{Heap}
use Rattle.pv_picks.specs.Formulas.Meeting.{Sight}
use Rattle.pv_picks.specs.Machine.Tasks.{Spot, FieldOf, ElementOf, AtHead, Combination, Negated, Computed, Compared, Matched, Task, Evaluate, EvaluateAll, Combine, Choose, Branch, Turn, Put, Drop, Give, Unfolded, Run, Stand, Resume, tasks_of_expression, tasks_of_statement}
use Rattle.pv_picks.specs.Machine.Measures.{size_of_tasks}

-- A call of a method, or of a `run`; or the body of a member of a block that the method opened.
pub record Frame : Type 0 where
  -- the class of `this`
  pub class : Name
  pub method : Method
  pub this : ℕ
  -- the variables that it began with, of which the contract of its body speaks
  pub begun : Variables
  pub variables : Variables
  -- intermediate values, the last one first
  pub values : List Value
  pub tasks : List Task
  pub result : Value
  -- the heap at its call, where a formula of its method speaks of it
  pub old : Option Heap

-- what is there where no value is
abbrev pub no_value : Value
no_value = value.Reference 0

abbrev pub top : List Value → Value
top values = get_or values 0 no_value

abbrev pub second : List Value → Value
second values = get_or values 1 no_value

-- the topmost values, in the order in which they came
abbrev pub topmost : ℕ → List Value → List Value
topmost count values = reverse (take count values)

-- the reference under so many values
abbrev pub object_under : ℕ → List Value → ℕ
object_under count values = reference_in (top (drop count values))

abbrev pub location_on : Spot → List Value → Location
location_on (FieldOf class name) values = location.Field (reference_in (top values)) name
location_on (ElementOf type) values = location.Cell (reference_in (second values)) (number_in (top values))

-- how many values name a place
abbrev pub breadth : Spot → ℕ
breadth (FieldOf class name) = 1
breadth (ElementOf type) = 2

abbrev pub combined : Combination → List Value → List Value
-- values: the truth value
combined Negated values = value.Truth (not (truth_in (top values))) ∷ drop 1 values
-- values: right number, left number
combined (Computed manner operation span) values =
    value.Number (arithmetic operation (number_in (second values)) (number_in (top values))) ∷ drop 2 values
-- values: right number, left number
combined (Compared order) values =
    value.Truth (comparison order (number_in (second values)) (number_in (top values))) ∷ drop 2 values
-- values: right value, left value
combined (Matched same) values = value.Truth (equality same (second values) (top values)) ∷ drop 2 values

abbrev pub goes_on : Frame → List Task → Frame
goes_on f tasks = record f { tasks = tasks }

-- without the topmost values
abbrev pub pops : ℕ → Frame → List Task → Frame
pops count f tasks = record f { values = drop count f.values; tasks = tasks }

abbrev pub pushes : Value → Frame → List Task → Frame
pushes v f tasks = record f { values = v ∷ f.values; tasks = tasks }

abbrev pub is_true : Frame → Bool
is_true f = truth_in (top f.values)

-- what has a value at once gets it, and all else is taken apart
abbrev pub evaluated : Frame → Expression → List Task → Frame
evaluated f (Constant v) rest = pushes v f rest
evaluated f This rest = pushes (value.Reference f.this) f rest
evaluated f Result rest = pushes f.result f rest
evaluated f (Variable name) rest = pushes (f.variables name.0) f rest
evaluated f e rest = goes_on f (tasks_of_expression e rest)

-- One piece of local work, with the tasks given apart; what stands at a step, waits for a call or has no task stays as it is. A
-- comment says which values a task takes, the topmost first; where there is none it takes none.
abbrev pub worked : Frame → List Task → Frame
worked f [] = f
worked f (Evaluate e ∷ rest) = evaluated f e rest
worked f (EvaluateAll [] ∷ rest) = goes_on f rest
worked f (EvaluateAll (e ∷ es) ∷ rest) = goes_on f (Evaluate e ∷ EvaluateAll es ∷ rest)
-- values: one or two operands, the right one first
worked f (Combine combination ∷ rest) = record f { values = combined combination f.values; tasks = rest }
-- values: the condition
worked f (Choose a b ∷ rest) = pops 1 f (Evaluate (if is_true f then a else b) ∷ rest)
-- values: the condition
worked f (Branch a b ∷ rest) = pops 1 f (Run (if is_true f then a else b) ∷ rest)
-- values: the condition
worked f (Turn loop ∷ rest) = pops 1 f (if is_true f then Run loop.body ∷ Stand (AtHead check.LoopKeep loop) ∷ rest else rest)
-- values: the new value
worked f (Put name ∷ rest) =
    record f { variables = with_variable f.variables name (top f.values); values = drop 1 f.values; tasks = rest }
-- values: what goes nowhere
worked f (Drop ∷ rest) = pops 1 f rest
-- values: the result
worked f (Give ∷ rest) = record f { result = top f.values; values = drop 1 f.values; tasks = rest }
-- values: the arguments, the last one first, then the object
worked f (Unfolded class predicate count span ∷ rest) = pops (suc count) f rest
worked f (Run Stop ∷ rest) = goes_on f rest
worked f (Run (Then s b) ∷ rest) = goes_on f (tasks_of_statement s (Run b ∷ rest))
worked f (Stand step ∷ rest) = f
worked f (Resume class method object arguments ∷ rest) = f

-- so many pieces of local work
abbrev pub after_work : ℕ → Frame → Frame
after_work zero f = f
after_work (suc n) f = after_work n (worked f f.tasks)

-- all local work up to the next step
abbrev pub settled : Frame → Frame
settled f = after_work (size_of_tasks f.tasks) f

-- the heap at the call, where the method speaks of it
abbrev pub kept : Method → Heap → Option Heap
kept m heap = if m.old then Some heap else None

-- a call of a method on an object, at its first step
abbrev pub entered : Heap → Name → Method → ℕ → List Value → Frame
entered heap class m object arguments = settled (record {
  class = class;
  method = m;
  this = object;
  begun = with_arguments no_variables m.parameters arguments;
  variables = with_arguments no_variables m.parameters arguments;
  values = [];
  tasks = Run m.body ∷ [];
  result = no_value;
  old = kept m heap;
})

-- what a precondition, a predicate's body and a lock invariant speak of
abbrev pub outer_scene : ℕ → List Parameter → List Value → Scene
outer_scene object parameters arguments =
    record { this = object; variables = with_arguments no_variables parameters arguments; result = no_value }

abbrev pub only_now : Heap → Sight
only_now heap = record { now = heap; old = heap }

-- A past heap with the lengths of the present one. A length never changes, so that each array of the past has its own there; and
-- an array that was made since has one too, where the past heap has none. So a method that returns a new array of three elements
-- meets the postcondition `\old(\result.length) == 3`.
abbrev pub at_lengths_of : Heap → Heap → Heap
at_lengths_of present past = record past { length = present.length }

-- the heap, with the one that `\old` speaks of in a frame
abbrev pub sight_of : Heap → Frame → Sight
sight_of heap f = record { now = heap; old = at_lengths_of heap (unwrap_or f.old heap) }

-- what invariants and asserts of a frame's body speak of
abbrev pub body_scene : Frame → Scene
body_scene f = record { this = f.this; variables = f.variables; result = f.result }

-- what the contract of a frame's body speaks of, and what barriers and messages in it do: no other variable may stand there
abbrev pub contract_scene : Frame → Scene
contract_scene f = record { this = f.this; variables = f.begun; result = f.result }
