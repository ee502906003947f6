-- Programs whose counted loops have quiet bodies. Text, and what is left of it to do, is calm where each counted loop in it has a
-- quiet body.
use Rattle.std.specs.Prelude.{◌≡◌, Bool, true, false, ◌&&◌, Option, List, [], ◌∷◌}
use Rattle.std.specs.List.{filter_map, AllByRecursion}
use Rattle.pv_picks.specs.Plain.Core.{Statement, Assign, If, While, Members, Meet, Act, Fold, Unfold, Assert, Send, Receive, Return, Block, Stop, Then, Method, Class, Program}
use Rattle.pv_picks.specs.Plain.Members.{method_of}
use Rattle.pv_picks.specs.Machine.Tasks.{Step, AtHead, AtOpen, Task, Branch, Turn, Run, Stand}
use Rattle.pv_picks.specs.Machine.Frames.{Frame}
use Rattle.core_names.specs.Carrying.{Membership}
use Rattle.machine_loops.specs.Quiet.{is_quiet_block}

-- the body of a counted loop is quiet; that of a par block may be as it is
abbrev pub quiet_if : Bool → Block → Bool
quiet_if true body = is_quiet_block body
quiet_if false body = true

-- a statement, and each statement of a block
abbrev mutual
  pub is_calm_statement : Statement → Bool
  is_calm_statement (Assign target right span) = true
  is_calm_statement (If condition a b) = is_calm_block a && is_calm_block b
  is_calm_statement (While assigned invariant condition body span) = is_calm_block body
  is_calm_statement (Members team body span) = quiet_if team.counted body && is_calm_block body
  is_calm_statement (Meet barrier span) = true
  is_calm_statement (Act action class object span) = true
  is_calm_statement (Fold class predicate object arguments span) = true
  is_calm_statement (Unfold class predicate object arguments span) = true
  is_calm_statement (Assert formula span) = true
  is_calm_statement (Send message span) = true
  is_calm_statement (Receive message span) = true
  is_calm_statement (Return e span) = true

  pub is_calm_block : Block → Bool
  is_calm_block Stop = true
  is_calm_block (Then s b) = is_calm_statement s && is_calm_block b

-- a step, by what it leads to
abbrev pub is_calm_step : Step → Bool
is_calm_step (AtHead check loop) = is_calm_block loop.body
is_calm_step (AtOpen team body) = quiet_if team.counted body && is_calm_block body
is_calm_step _ = true

-- a task, and all that are left
abbrev pub is_calm_task : Task → Bool
is_calm_task (Branch a b) = is_calm_block a && is_calm_block b
is_calm_task (Turn loop) = is_calm_block loop.body
is_calm_task (Run b) = is_calm_block b
is_calm_task (Stand step) = is_calm_step step
is_calm_task _ = true

abbrev pub are_calm : List Task → Bool
are_calm [] = true
are_calm (t ∷ ts) = is_calm_task t && are_calm ts

-- what is left of a frame is calm
abbrev pub IsCalmFrame : Option Membership → Frame → Type 0
IsCalmFrame member f = are_calm f.tasks ≡ true

abbrev pub IsCalmMethod : Method → Type 0
IsCalmMethod m = is_calm_block m.body ≡ true

-- each method and `run` of a class
abbrev pub IsCalmClass : Class → Type 0
IsCalmClass c = AllByRecursion IsCalmMethod (filter_map method_of c.members)

-- in the body of each method and `run` of the program each counted loop has a quiet body
abbrev pub HasQuietLoops : Program → Type 0
HasQuietLoops p = AllByRecursion IsCalmClass p
