-- What holds of each par block and counted loop that the bodies of a program open, and that a frame has left to open.
use Rattle.std.specs.Prelude.{◌≡◌, ℕ, List, ◌∷◌}
use Rattle.std.specs.List.{AllByRecursion}
use Rattle.pv_picks.specs.Plain.Core as core
use Rattle.pv_picks.specs.Plain.Core.{Team, Statement, Block}
use Rattle.pv_picks.specs.Machine.Tasks.{Step, AtHead, AtOpen, Task, Branch, Turn, Run, Stand}
use Rattle.pv_picks.specs.Machine.Frames.{Frame}
use Rattle.pv_picks.specs.Machine.Worlds.{World}
use Rattle.core_trees.specs.Messages.{Matches}
use Rattle.core_trees.specs.Placing.{environment_members, PlacedBlock}

-- it holds of each block in a statement, in a block and in what is left to do
module _ (P : Team → Block → Type 0) where
  abbrev mutual
    pub StatementOpens : Statement → Type 0
    StatementOpens (core.If e first second) = BlockOpens first × BlockOpens second
    StatementOpens (core.While variables f e body span) = BlockOpens body
    StatementOpens (core.Members team body span) = P team body × BlockOpens body
    StatementOpens _ = Unit {0}

    pub BlockOpens : Block → Type 0
    BlockOpens core.Stop = Unit {0}
    BlockOpens (core.Then s b) = StatementOpens s × BlockOpens b

  abbrev pub StepOpens : Step → Type 0
  StepOpens (AtHead named loop) = BlockOpens loop.body
  StepOpens (AtOpen team body) = P team body × BlockOpens body
  StepOpens _ = Unit {0}

  abbrev pub TaskOpens : Task → Type 0
  TaskOpens (Branch a b) = BlockOpens a × BlockOpens b
  TaskOpens (Turn loop) = BlockOpens loop.body
  TaskOpens (Run b) = BlockOpens b
  TaskOpens (Stand step) = StepOpens step
  TaskOpens _ = Unit {0}

  abbrev pub TasksOpen : List Task → Type 0
  TasksOpen tasks = AllByRecursion TaskOpens tasks

  -- it holds of each block at whose opening a thread of a world stands
  abbrev pub OpensOnly : World → Type 0
  OpensOnly w = (i : ℕ) (f : Frame) (below : List Frame) → (w.threads i).frames ≡ f ∷ below
      → (team : Team) (body : Block) (rest : List Task) → f.tasks ≡ Stand (AtOpen team body) ∷ rest → P team body

-- each message that the body of a counted loop receives is one that it sends, and messages stand in the bodies of counted loops
abbrev pub KeepsMessages : Team → Block → Type 0
KeepsMessages team body = Matches team.counted body × PlacedBlock (environment_members team.counted) body
