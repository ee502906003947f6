-- What is left of a body to do, as data. Expressions are taken apart in small steps over a stack of intermediate values: a task
-- that stands at a step waits for it, one that resumes waits for a call to return, and all other tasks are local work.
use Rattle.std.specs.Prelude.{ℕ, Bool, true, false, Option, Some, None, List, ◌∷◌, length}
use Rattle.pv_base.specs.declared.Name.{Name}
use Rattle.pv_base.specs.declared.Span.{Span}
use Rattle.pv_ast.specs.declared.PvType.{PvType}
use Rattle.pv_values.specs.declared.value.Value.{Value}
use Rattle.pv_values.specs.declared.value.Value.TheVariants as value
use Rattle.pv_picks.specs.declared.check.Check.{Check}
use Rattle.pv_picks.specs.declared.check.Check.TheVariants as check
use Rattle.pv_picks.specs.Plain.Core.{Operation, Manner, Comparison, Expression, Constant, This, Result, Variable, Field, Element, Length, Not, Compute, Compare, Equal, And, Or, Implies, Old, Formula, Action, Target, Nowhere, ToVariable, ToField, ToElement, Right, Value', Call, NewObject, NewArray, Team, Barrier, Message, Parameter, Method, Statement, Assign, If, While, Members, Meet, Act, Fold, Unfold, Assert, Send, Receive, Return, Block}

-- the form of a place; its object, or its array and index, stand on the values
pub data Spot : Type 0 where
  -- class, field
  FieldOf : Name → Name → Spot
  -- type of the elements
  ElementOf : PvType → Spot

-- A `while`: the variables in scope that its body assigns, then invariant, condition and body. No step reads the variables: laws
-- name by them what a turn may change.
pub record Loop : Type 0 where
  pub assigned : List Parameter
  pub invariant : Formula
  pub condition : Expression
  pub body : Block

-- where a thread stands for a step, with what the step needs besides the values; spans are those of the access or the statement
pub data Step : Type 0 where
  AtRead : Spot → Span → Step
  AtWrite : Spot → Span → Step
  AtLength : PvType → Span → Step
  AtNewObject : Name → Step
  -- type of the elements
  AtNewArray : PvType → Span → Step
  AtAssert : Formula → Step
  -- class, predicate, number of arguments
  AtFold : Name → Name → ℕ → Span → Step
  -- what is named where the invariant isn't met
  AtHead : Check → Loop → Step
  -- class, method, number of arguments
  AtCall : Name → Name → ℕ → Span → Step
  AtAction : Action → Name → Span → Step
  AtOpen : Team → Block → Step
  -- the number of the block
  AtClose : ℕ → Step
  AtArrive : Barrier → Span → Step
  AtLeave : Barrier → Span → Step
  AtSend : Message → Span → Step
  AtReceive : Message → Span → Step

-- what local work makes of the topmost values
pub data Combination : Type 0 where
  Negated : Combination
  Computed : Manner → Operation → Span → Combination
  Compared : Comparison → Combination
  Matched : Bool → Combination

pub data Task : Type 0 where
  -- the value of an expression comes on top; those of several do, from left to right
  Evaluate : Expression → Task
  EvaluateAll : List Expression → Task
  Combine : Combination → Task
  -- the truth value on top says which comes: of two expressions, of two blocks, another turn of a loop or none
  Choose : Expression → Expression → Task
  Branch : Block → Block → Task
  Turn : Loop → Task
  -- the value on top goes into a variable, or nowhere
  Put : Name → Task
  Drop : Task
  -- the value on top is the result
  Give : Task
  -- Class, predicate, number of arguments. To unfold is no step of the machine: the values go, and nothing is looked up, so that
  -- what isn't declared neither waits nor is wrong here. The judge is who asks for the instance.
  Unfolded : Name → Name → ℕ → Span → Task
  Run : Block → Task
  Stand : Step → Task
  -- A call that isn't over: class, method, object, arguments. No step reads them: laws name by them the call that is waited for.
  Resume : Name → Method → ℕ → List Value → Task

abbrev pub always : Bool → Expression
always b = Constant (value.Truth b)

-- an expression before other tasks, taken apart once; what needs no part has its value at once
abbrev pub tasks_of_expression : Expression → List Task → List Task
tasks_of_expression (Field object class name span) rest = Evaluate object ∷ Stand (AtRead (FieldOf class name) span) ∷ rest
tasks_of_expression (Element type array index span) rest =
    Evaluate array ∷ Evaluate index ∷ Stand (AtRead (ElementOf type) span) ∷ rest
tasks_of_expression (Length type array span) rest = Evaluate array ∷ Stand (AtLength type span) ∷ rest
tasks_of_expression (Not e) rest = Evaluate e ∷ Combine Negated ∷ rest
tasks_of_expression (Compute manner operation a b span) rest =
    Evaluate a ∷ Evaluate b ∷ Combine (Computed manner operation span) ∷ rest
tasks_of_expression (Compare order a b) rest = Evaluate a ∷ Evaluate b ∷ Combine (Compared order) ∷ rest
tasks_of_expression (Equal same a b) rest = Evaluate a ∷ Evaluate b ∷ Combine (Matched same) ∷ rest
tasks_of_expression (And a b) rest = Evaluate a ∷ Choose b (always false) ∷ rest
tasks_of_expression (Or a b) rest = Evaluate a ∷ Choose (always true) b ∷ rest
tasks_of_expression (Implies a b) rest = Evaluate a ∷ Choose b (always true) ∷ rest
tasks_of_expression (Old e) rest = Evaluate e ∷ rest
tasks_of_expression (Constant v) rest = rest
tasks_of_expression This rest = rest
tasks_of_expression Result rest = rest
tasks_of_expression (Variable name) rest = rest

-- the parts of a left side
abbrev pub tasks_of_target : Target → List Task → List Task
tasks_of_target Nowhere rest = rest
tasks_of_target (ToVariable name) rest = rest
tasks_of_target (ToField object class name span) rest = Evaluate object ∷ rest
tasks_of_target (ToElement type array index span) rest = Evaluate array ∷ Evaluate index ∷ rest

abbrev pub tasks_of_right : Right → Span → List Task → List Task
tasks_of_right (Value' e) span rest = Evaluate e ∷ rest
tasks_of_right (Call class method object arguments) span rest =
    Evaluate object ∷ EvaluateAll arguments ∷ Stand (AtCall class method (length arguments) span) ∷ rest
tasks_of_right (NewObject class) span rest = Stand (AtNewObject class) ∷ rest
tasks_of_right (NewArray type size) span rest = Evaluate size ∷ Stand (AtNewArray type span) ∷ rest

-- the value on top goes into the place of a left side
abbrev pub put_into : Target → Task
put_into Nowhere = Drop
put_into (ToVariable name) = Put name
put_into (ToField object class name span) = Stand (AtWrite (FieldOf class name) span)
put_into (ToElement type array index span) = Stand (AtWrite (ElementOf type) span)

abbrev pub tasks_of_return : Option Expression → List Task → List Task
tasks_of_return None rest = rest
tasks_of_return (Some e) rest = Evaluate e ∷ Give ∷ rest

-- a statement before other tasks
abbrev pub tasks_of_statement : Statement → List Task → List Task
tasks_of_statement (Assign target right span) rest = tasks_of_target target (tasks_of_right right span (put_into target ∷ rest))
tasks_of_statement (If condition a b) rest = Evaluate condition ∷ Branch a b ∷ rest
tasks_of_statement (While assigned invariant condition body span) rest =
    Stand (AtHead check.LoopEntry (record {
      assigned = assigned;
      invariant = invariant;
      condition = condition;
      body = body;
    })) ∷ rest
tasks_of_statement (Members team body span) rest = Evaluate team.low ∷ Evaluate team.high ∷ Stand (AtOpen team body) ∷ rest
tasks_of_statement (Meet barrier span) rest = Stand (AtArrive barrier span) ∷ rest
tasks_of_statement (Act action class object span) rest = Evaluate object ∷ Stand (AtAction action class span) ∷ rest
tasks_of_statement (Fold class predicate object arguments span) rest =
    Evaluate object ∷ EvaluateAll arguments ∷ Stand (AtFold class predicate (length arguments) span) ∷ rest
tasks_of_statement (Unfold class predicate object arguments span) rest =
    Evaluate object ∷ EvaluateAll arguments ∷ Unfolded class predicate (length arguments) span ∷ rest
tasks_of_statement (Assert formula span) rest = Stand (AtAssert formula) ∷ rest
tasks_of_statement (Send message span) rest = Stand (AtSend message span) ∷ rest
tasks_of_statement (Receive message span) rest = Stand (AtReceive message span) ∷ rest
tasks_of_statement (Return e span) rest = tasks_of_return e rest
