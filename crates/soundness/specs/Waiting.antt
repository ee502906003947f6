-- What a frame has left to share with others: the barriers and messages that it comes to, and the blocks that it opens.
use Rattle.std.specs.Prelude.{◌≡◌, false, if◌then◌else◌, Option, Some, None, List, [], ◌∷◌, ◌++◌}
use Rattle.std.specs.List.{AllByRecursion}
use Rattle.pv_base.specs.declared.Name.{Name}
use Rattle.pv_picks.specs.Plain.Core.{Message, Method}
use Rattle.pv_picks.specs.Machine.Tasks.{Step, AtHead, AtOpen, AtArrive, AtLeave, AtSend, AtReceive, Task, Branch, Turn, Run, Stand}
use Rattle.pv_picks.specs.Machine.Frames.{Frame}
use Rattle.core_trees.specs.Messages.{received_in_block}
use Rattle.core_trees.specs.Placing.{Environment, InMethod, InBlock, InLoop, environment_members, environment_repeated}
use Rattle.core_names.specs.Carrying.{Membership}
use Rattle.core_trees.specs.Formulas.{OnceEach, LabelsDiffer}
use Rattle.core_sharing.specs.Keeping.{SaidOfBarrier}
use Rattle.core_sharing.specs.Forms.{SameShared}
use Rattle.soundness.specs.Sharing.{position_in, BlockShares}

abbrev pub StepShares : Environment → Option Name → Step → Type 0
StepShares environment position (AtHead named loop) = BlockShares (environment_repeated environment) position loop.body
StepShares environment position (AtOpen team body) =
    SameShared team.variable team.shared × OnceEach team.counted body
    × BlockShares (environment_members team.counted) (position_in position team) body
StepShares environment position (AtArrive barrier span) =
    (environment ≡ InBlock) × SaidOfBarrier SameShared position barrier.shared
StepShares environment position (AtLeave barrier span) =
    (environment ≡ InBlock) × SaidOfBarrier SameShared position barrier.shared
StepShares environment position (AtSend m span) = environment ≡ InLoop
StepShares environment position (AtReceive m span) = environment ≡ InLoop
StepShares environment position _ = Unit {0}

abbrev pub TaskShares : Environment → Option Name → Task → Type 0
TaskShares environment position (Branch a b) = BlockShares environment position a × BlockShares environment position b
TaskShares environment position (Turn loop) = BlockShares (environment_repeated environment) position loop.body
TaskShares environment position (Run b) = BlockShares environment position b
TaskShares environment position (Stand step) = StepShares environment position step
TaskShares environment position _ = Unit {0}

-- what is left to do
abbrev pub TasksShare : Environment → Option Name → List Task → Type 0
TasksShare environment position tasks = AllByRecursion (TaskShares environment position) tasks

-- the messages that are received
abbrev pub received_by_step : Step → List Message
received_by_step (AtHead named loop) = received_in_block loop.body
received_by_step (AtOpen team body) = if team.counted then [] else received_in_block body
received_by_step (AtReceive m span) = m ∷ []
received_by_step _ = []

abbrev pub received_by_task : Task → List Message
received_by_task (Branch a b) = received_in_block a ++ received_in_block b
received_by_task (Turn loop) = received_in_block loop.body
received_by_task (Run b) = received_in_block b
received_by_task (Stand step) = received_by_step step
received_by_task _ = []

abbrev pub received_in_tasks : List Task → List Message
received_in_tasks [] = []
received_in_tasks (task ∷ rest) = received_by_task task ++ received_in_tasks rest

-- what stands around a frame's body: a block, where it is a member's own
abbrev pub environment_of : Option Membership → Environment
environment_of None = InMethod
environment_of (Some m) = environment_members m.team.counted

-- a member's own body is in the method in which its block was opened; its block's contract has both forms alike; and in a par
-- block its variable is that of the barriers
abbrev pub IsInside : Option Membership → Method → Option Name → Type 0
IsInside None method position = Unit {0}
IsInside (Some m) method position =
    (method ≡ m.opening.method) × SameShared m.team.variable m.team.shared
    × (m.team.counted ≡ false → position ≡ Some m.team.variable)

-- all that is left shares what it may, and receives no label twice
pub record FrameShares (member : Option Membership) (f : Frame) : Type 0 where
  pub position : Option Name
  pub inside : IsInside member f.method position
  pub tasks : TasksShare (environment_of member) position f.tasks
  pub once : LabelsDiffer (received_in_tasks f.tasks)
