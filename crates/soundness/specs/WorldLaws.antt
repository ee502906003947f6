-- What the laws of this crate say, of each world that a well formed program reaches.
use Rattle.std.specs.Prelude.{◌≡◌, ◌<◌, ℕ, ℤ, true, List, [], ◌∷◌}
use Rattle.pv_base.specs.declared.Span.{Span}
use Rattle.pv_ast.specs.declared.Program.{Program}
use Rattle.pv_ast.specs.Rules.WellFormed.{IsWellFormed}
use Rattle.pv_picks.specs.Elaborating.Programs.{core_of}
use Rattle.pv_picks.specs.Plain.Core.{Team, Barrier, Message, Block}
use Rattle.pv_picks.specs.Machine.Tasks.{Step, AtOpen, AtArrive, AtLeave, AtSend, AtReceive, Task, Stand}
use Rattle.pv_picks.specs.Machine.Frames.{Frame, goes_on}
use Rattle.pv_picks.specs.Machine.Worlds.{World, is_member}
use Rattle.pv_picks.specs.Machine.Steps.{frames_leave}
use Rattle.pv_picks.specs.Machine.Safety.{IsReached}
use Rattle.account.specs.Blocks.{FormsAreAlike}
use Rattle.account.specs.Messages.{ReceivesNone}
use Rattle.account.specs.Members.{IsMemberAt, LeavesAt}

-- steps that are made among members
abbrev pub IsAmongMembers : Step → Type 0
IsAmongMembers (AtArrive barrier span) = Unit {0}
IsAmongMembers (AtLeave barrier span) = Unit {0}
IsAmongMembers (AtSend m span) = Unit {0}
IsAmongMembers (AtReceive m span) = Unit {0}
IsAmongMembers _ = ⊥

-- a thread that stands at such a step is a member of a block, in its own body
abbrev pub MembersStandInTheirBodies : Type 0
MembersStandInTheirBodies = (p : Program) → IsWellFormed p → (w : World) → IsReached (core_of p) w
    → (i : ℕ) (f : Frame) (below : List Frame) → (w.threads i).frames ≡ f ∷ below
    → (step : Step) (rest : List Task) → f.tasks ≡ Stand step ∷ rest → IsAmongMembers step
    → (b : ℕ) × (position : ℤ) × IsMemberAt w i b position f (Stand step ∷ rest)

-- where a message is received, none with its label is received again
abbrev pub LabelsAreReceivedOnce : Type 0
LabelsAreReceivedOnce = (p : Program) → IsWellFormed p → (w : World) → IsReached (core_of p) w
    → (i : ℕ) (f : Frame) (below : List Frame) → (w.threads i).frames ≡ f ∷ below
    → (m : Message) (span : Span) (rest : List Task) → f.tasks ≡ Stand (AtReceive m span) ∷ rest
    → ReceivesNone m.label (goes_on f rest ∷ [])

-- both forms of each contract that members keep are made alike, for the variable of their block: of a block that is opened, of a
-- block whose members run, and of a barrier at which one of them arrives
pub record FormsStayAlike (w : World) : Type 0 where
  pub opening : (i : ℕ) (f : Frame) (below : List Frame) → (w.threads i).frames ≡ f ∷ below
      → (team : Team) (body : Block) (rest : List Task) → f.tasks ≡ Stand (AtOpen team body) ∷ rest
      → FormsAreAlike team team.shared
  pub blocks : (b : ℕ) → b < w.block_count → FormsAreAlike (w.blocks b).team (w.blocks b).team.shared
  pub arrivals : (i b : ℕ) (position : ℤ) (f : Frame) (barrier : Barrier) (span : Span) (rest : List Task)
      → IsMemberAt w i b position f (Stand (AtArrive barrier span) ∷ rest) → FormsAreAlike (w.blocks b).team barrier.shared

abbrev pub BothFormsStayAlike : Type 0
BothFormsStayAlike = (p : Program) → IsWellFormed p → (w : World) → IsReached (core_of p) w → FormsStayAlike w

-- whoever of a block leaves a barrier at the place of another member's leaves that barrier, in its own body
abbrev pub PlacesTellBarriers : Type 0
PlacesTellBarriers = (p : Program) → IsWellFormed p → (w : World) → IsReached (core_of p) w
    → (i b : ℕ) (position : ℤ) (f : Frame) (barrier : Barrier) (span : Span) (rest : List Task)
    → IsMemberAt w i b position f (Stand (AtLeave barrier span) ∷ rest)
    → (j : ℕ) → is_member (w.blocks b) j ≡ true → frames_leave barrier.place (w.threads j).frames ≡ true → LeavesAt w j barrier
