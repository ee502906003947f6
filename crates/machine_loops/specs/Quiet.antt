-- Quiet text, and what is left of it to do: no allocation, call, fork, join, lock, unlock, commit, par block, counted loop and
-- barrier is in it, at any depth. The body of a counted loop is to be quiet.
use Rattle.std.specs.Prelude.{Bool, true, false, ◌&&◌, List, [], ◌∷◌}
use Rattle.pv_picks.specs.Plain.Core.{Right, Value', Statement, Assign, If, While, Members, Meet, Act, Fold, Unfold, Assert, Send, Receive, Return, Block, Stop, Then}
use Rattle.pv_picks.specs.Machine.Tasks.{Step, AtRead, AtWrite, AtLength, AtAssert, AtFold, AtHead, AtSend, AtReceive, Task, Branch, Turn, Run, Stand, Resume}

-- the value of an expression is assigned
abbrev pub is_quiet_right : Right → Bool
is_quiet_right (Value' e) = true
is_quiet_right _ = false

-- a statement, and each statement of a block
abbrev mutual
  pub is_quiet_statement : Statement → Bool
  is_quiet_statement (Assign target right span) = is_quiet_right right
  is_quiet_statement (If condition a b) = is_quiet_block a && is_quiet_block b
  is_quiet_statement (While assigned invariant condition body span) = is_quiet_block body
  is_quiet_statement (Members team body span) = false
  is_quiet_statement (Meet barrier span) = false
  is_quiet_statement (Act action class object span) = false
  is_quiet_statement (Fold class predicate object arguments span) = true
  is_quiet_statement (Unfold class predicate object arguments span) = true
  is_quiet_statement (Assert formula span) = true
  is_quiet_statement (Send message span) = true
  is_quiet_statement (Receive message span) = true
  is_quiet_statement (Return e span) = true

  pub is_quiet_block : Block → Bool
  is_quiet_block Stop = true
  is_quiet_block (Then s b) = is_quiet_statement s && is_quiet_block b

-- a step that reads or writes a location, reads a length, checks, sends or receives
abbrev pub is_quiet_step : Step → Bool
is_quiet_step (AtRead spot span) = true
is_quiet_step (AtWrite spot span) = true
is_quiet_step (AtLength type span) = true
is_quiet_step (AtAssert formula) = true
is_quiet_step (AtFold class predicate count span) = true
is_quiet_step (AtHead check loop) = is_quiet_block loop.body
is_quiet_step (AtSend message span) = true
is_quiet_step (AtReceive message span) = true
is_quiet_step _ = false

-- a task, and all that are left
abbrev pub is_quiet_task : Task → Bool
is_quiet_task (Branch a b) = is_quiet_block a && is_quiet_block b
is_quiet_task (Turn loop) = is_quiet_block loop.body
is_quiet_task (Run b) = is_quiet_block b
is_quiet_task (Stand step) = is_quiet_step step
is_quiet_task (Resume class method object arguments) = false
is_quiet_task _ = true

abbrev pub are_quiet : List Task → Bool
are_quiet [] = true
are_quiet (t ∷ ts) = is_quiet_task t && are_quiet ts
