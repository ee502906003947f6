-- How many pieces of local work tasks may take before a step: an upper bound, by the form of the text. So much work is done after
-- each step, and more would make no difference.
use Rattle.std.specs.Prelude.{ℕ, suc, ◌+◌, Some, None, List, [], ◌∷◌}
use Rattle.pv_picks.specs.Plain.Core.{Expression, Constant, This, Result, Variable, Field, Element, Length, Not, Compute, Compare, Equal, And, Or, Implies, Old, Target, Nowhere, ToVariable, ToField, ToElement, Right, Value', Call, NewObject, NewArray, Statement, Assign, If, While, Members, Meet, Act, Fold, Unfold, Assert, Send, Receive, Return, Block, Stop, Then}
use Rattle.pv_picks.specs.Machine.Tasks.{Task, Evaluate, EvaluateAll, Combine, Choose, Branch, Turn, Put, Drop, Give, Unfolded, Run, Stand, Resume}

abbrev pub size_of_expression : Expression → ℕ
size_of_expression (Field object class name span) = suc (size_of_expression object)
size_of_expression (Element type array index span) = suc (size_of_expression array + size_of_expression index)
size_of_expression (Length type array span) = suc (size_of_expression array)
size_of_expression (Not e) = suc (suc (size_of_expression e))
size_of_expression (Compute manner operation a b span) = suc (suc (size_of_expression a + size_of_expression b))
size_of_expression (Compare order a b) = suc (suc (size_of_expression a + size_of_expression b))
size_of_expression (Equal same a b) = suc (suc (size_of_expression a + size_of_expression b))
size_of_expression (And a b) = suc (suc (suc (size_of_expression a + size_of_expression b)))
size_of_expression (Or a b) = suc (suc (suc (size_of_expression a + size_of_expression b)))
size_of_expression (Implies a b) = suc (suc (suc (size_of_expression a + size_of_expression b)))
size_of_expression (Old e) = suc (size_of_expression e)
size_of_expression (Constant v) = 1
size_of_expression This = 1
size_of_expression Result = 1
size_of_expression (Variable name) = 1

abbrev pub size_of_expressions : List Expression → ℕ
size_of_expressions [] = 1
size_of_expressions (e ∷ es) = suc (size_of_expression e + size_of_expressions es)

abbrev pub size_of_target : Target → ℕ
size_of_target Nowhere = 1
size_of_target (ToVariable name) = 1
size_of_target (ToField object class name span) = size_of_expression object
size_of_target (ToElement type array index span) = size_of_expression array + size_of_expression index

abbrev pub size_of_right : Right → ℕ
size_of_right (Value' e) = size_of_expression e
size_of_right (Call class method object arguments) = size_of_expression object + size_of_expressions arguments
size_of_right (NewObject class) = 0
size_of_right (NewArray type size) = size_of_expression size

abbrev mutual
  pub size_of_statement : Statement → ℕ
  size_of_statement (Assign target right span) = size_of_target target + size_of_right right
  size_of_statement (If condition a b) = size_of_expression condition + suc (size_of_block a + size_of_block b)
  size_of_statement (While assigned invariant condition body span) = 0
  size_of_statement (Members team body span) = size_of_expression team.low + size_of_expression team.high
  size_of_statement (Meet barrier span) = 0
  size_of_statement (Act action class object span) = size_of_expression object
  size_of_statement (Fold class predicate object arguments span) = size_of_expression object + size_of_expressions arguments
  size_of_statement (Unfold class predicate object arguments span) =
      size_of_expression object + suc (size_of_expressions arguments)
  size_of_statement (Assert formula span) = 0
  size_of_statement (Send message span) = 0
  size_of_statement (Receive message span) = 0
  size_of_statement (Return None span) = 0
  size_of_statement (Return (Some e) span) = suc (size_of_expression e)

  pub size_of_block : Block → ℕ
  size_of_block Stop = 1
  size_of_block (Then s b) = suc (size_of_statement s + size_of_block b)

abbrev pub size_of_task : Task → ℕ
size_of_task (Evaluate e) = size_of_expression e
size_of_task (EvaluateAll es) = size_of_expressions es
size_of_task (Combine combination) = 1
size_of_task (Choose a b) = suc (size_of_expression a + size_of_expression b)
size_of_task (Branch a b) = suc (size_of_block a + size_of_block b)
size_of_task (Turn loop) = suc (size_of_block loop.body)
size_of_task (Put name) = 1
size_of_task Drop = 1
size_of_task Give = 1
size_of_task (Unfolded class predicate count span) = 1
size_of_task (Run b) = size_of_block b
size_of_task (Stand step) = 0
size_of_task (Resume class method object arguments) = 0

abbrev pub size_of_tasks : List Task → ℕ
size_of_tasks [] = 0
size_of_tasks (t ∷ ts) = size_of_task t + size_of_tasks ts
