-- A thread that stands at the opening of a par block or counted loop, in a well formed program.
use Rattle.std.specs.Prelude.{◌≡◌, List, ◌∷◌}
use Rattle.pv_picks.specs.Plain.Core.{Team, Block}
use Rattle.pv_picks.specs.Machine.Tasks.{AtOpen, Task, Stand}
use Rattle.pv_picks.specs.Machine.Frames.{Frame}
use Rattle.pv_picks.specs.Machine.Worlds.{Role}
use Rattle.core_trees.specs.Opening.{KeepsMessages}
use Rattle.account.specs.Blocks.{FormsAreAlike}

-- both forms of the block's contract are made alike, each message that its body receives is one that it sends, and messages stand
-- in the bodies of counted loops
pub record IsAtOpening (f : Frame) (below : List Frame) (role : Role) : Type 0 where
  pub team : Team
  pub body : Block
  pub rest : List Task
  pub tasks : f.tasks ≡ Stand (AtOpen team body) ∷ rest
  pub alike : FormsAreAlike team team.shared
  pub messages : KeepsMessages team body
