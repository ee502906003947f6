-- Threads of reached worlds that stand at the opening of a par block or counted loop.
use Rattle.std.specs.Prelude.{◌≡◌, ℕ, List, ◌∷◌}
use Rattle.pv_ast.specs.declared.Program.{Program}
use Rattle.pv_ast.specs.Rules.WellFormed.{IsWellFormed}
use Rattle.pv_picks.specs.Elaborating.Programs.{core_of}
use Rattle.pv_picks.specs.Plain.Core.{Team, Block}
use Rattle.pv_picks.specs.Machine.Tasks.{AtOpen, Task, Stand}
use Rattle.pv_picks.specs.Machine.Frames.{Frame}
use Rattle.pv_picks.specs.Machine.Worlds.{World}
use Rattle.pv_picks.specs.Machine.Safety.{IsReached}
use Rattle.account.specs.Openings.{IsAtOpening}

-- a thread that stands at an opening does so as the account asks: both forms of the block's contract are made alike, and its body
-- receives what it sends
abbrev pub OpeningsStand : Type 0
OpeningsStand = (p : Program) → IsWellFormed p → (w : World) → IsReached (core_of p) w
    → (i : ℕ) (f : Frame) (below : List Frame) → (w.threads i).frames ≡ f ∷ below
    → (team : Team) (body : Block) (rest : List Task) → f.tasks ≡ Stand (AtOpen team body) ∷ rest
    → IsAtOpening f below (w.threads i).role
