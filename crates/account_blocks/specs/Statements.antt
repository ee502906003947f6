-- What the laws of this crate say: of a member that stands in the body of its block, at a step, in an accounted world.
use Rattle.std.specs.Prelude.{◌≡◌, ℕ, ℤ, true, List, [], ◌∷◌}
use Rattle.pv_base.specs.declared.Span.{Span}
use Rattle.pv_picks.specs.Plain.Core.{Barrier, Message, Program}
use Rattle.pv_picks.specs.Machine.Tasks.{AtArrive, AtClose, AtLeave, AtSend, AtReceive, Task, Stand}
use Rattle.pv_picks.specs.Machine.Frames.{Frame, goes_on}
use Rattle.pv_picks.specs.Machine.Worlds.{Mode, World, is_member}
use Rattle.pv_picks.specs.Machine.Steps.{frames_leave, act}
use Rattle.account_formulas.specs.Growing.{HeapFits}
use Rattle.account_formulas.specs.Gaining.{PredicatesFit}
use Rattle.account.specs.Blocks.{FormsAreAlike}
use Rattle.account.specs.Messages.{ReceivesNone}
use Rattle.account.specs.Members.{IsMemberAt, LeavesAt}
use Rattle.account.specs.Accounts.{Account, Kept}

-- a message is sent
abbrev pub SendsKeep : Type 0
SendsKeep = (p : Program) (w : World) → Account p w → HeapFits p w.heap → PredicatesFit p w.heap
    → (i b : ℕ) (position : ℤ) (f : Frame) (m : Message) (span : Span) (rest : List Task)
    → IsMemberAt w i b position f (Stand (AtSend m span) ∷ rest)
    → (mode : Mode) → Kept p (act p w mode i)

-- a message is received, which isn't received again
abbrev pub ReceivesKeep : Type 0
ReceivesKeep = (p : Program) (w : World) → Account p w → HeapFits p w.heap → PredicatesFit p w.heap
    → (i b : ℕ) (position : ℤ) (f : Frame) (m : Message) (span : Span) (rest : List Task)
    → IsMemberAt w i b position f (Stand (AtReceive m span) ∷ rest)
    → ReceivesNone m.label (goes_on f rest ∷ [])
    → (mode : Mode) → Kept p (act p w mode i)

-- a member arrives at a barrier, both forms of whose contract are made alike
abbrev pub ArrivalsKeep : Type 0
ArrivalsKeep = (p : Program) (w : World) → Account p w → HeapFits p w.heap → PredicatesFit p w.heap
    → (i b : ℕ) (position : ℤ) (f : Frame) (barrier : Barrier) (span : Span) (rest : List Task)
    → IsMemberAt w i b position f (Stand (AtArrive barrier span) ∷ rest)
    → FormsAreAlike (w.blocks b).team barrier.shared
    → (mode : Mode) → Kept p (act p w mode i)

-- a member ends
abbrev pub EndsKeep : Type 0
EndsKeep = (p : Program) (w : World) → Account p w → HeapFits p w.heap → PredicatesFit p w.heap
    → (i b : ℕ) (position : ℤ) (f : Frame) → IsMemberAt w i b position f []
    → (mode : Mode) → Kept p (act p w mode i)

-- a thread waits for the members of a block, or goes on with what they left
abbrev pub ClosesKeep : Type 0
ClosesKeep = (p : Program) (w : World) → Account p w → HeapFits p w.heap → PredicatesFit p w.heap
    → (i : ℕ) (f : Frame) (below : List Frame) → (w.threads i).frames ≡ f ∷ below
    → (c : ℕ) (rest : List Task) → f.tasks ≡ Stand (AtClose c) ∷ rest
    → (mode : Mode) → Kept p (act p w mode i)

-- Members leave a barrier when all of them stand there. Who stands at its place stands at this barrier.
abbrev pub LeavesKeep : Type 0
LeavesKeep = (p : Program) (w : World) → Account p w → HeapFits p w.heap → PredicatesFit p w.heap
    → (i b : ℕ) (position : ℤ) (f : Frame) (barrier : Barrier) (span : Span) (rest : List Task)
    → IsMemberAt w i b position f (Stand (AtLeave barrier span) ∷ rest)
    → ((j : ℕ) → is_member (w.blocks b) j ≡ true → frames_leave barrier.place (w.threads j).frames ≡ true → LeavesAt w j barrier)
    → (mode : Mode) → Kept p (act p w mode i)
