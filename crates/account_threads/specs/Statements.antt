-- What the laws of this crate say.
use Rattle.std.specs.Prelude.{◌≡◌, ℕ, List, [], ◌∷◌}
use Rattle.pv_base.specs.declared.Name.{Name}
use Rattle.pv_base.specs.declared.Span.{Span}
use Rattle.pv_picks.specs.Plain.Core.{Action, Fork, Join', Lock, Unlock, Commit, Program}
use Rattle.pv_picks.specs.Formulas.Heaps.{Heap}
use Rattle.pv_picks.specs.Machine.Tasks.{AtAction, Task, Stand}
use Rattle.pv_picks.specs.Machine.Frames.{Frame}
use Rattle.pv_picks.specs.Machine.Worlds.{Role, RunOf}
use Rattle.account_formulas.specs.Growing.{HeapFits}
use Rattle.account.specs.Verified.{IsVerifiedThroughout}
use Rattle.account.specs.Labels.{KeepsTheAccount}
use Rattle.account_threads.specs.Parts.{InvariantsFit, RunsFit}

-- at an action on an object
pub record IsAtAction (action : Action) (f : Frame) (below : List Frame) (role : Role) : Type 0 where
  pub class : Name
  pub span : Span
  pub rest : List Task
  pub tasks : f.tasks ≡ Stand (AtAction action class span) ∷ rest

-- at the end of the `run` of an object
pub record IsAtRunEnd (f : Frame) (below : List Frame) (role : Role) : Type 0 where
  pub tasks : f.tasks ≡ []
  pub alone : below ≡ []
  pub object : ℕ
  pub run : role ≡ RunOf object

-- what the lock invariant asks for goes from the thread to the lock
abbrev pub UnlocksKeep : Type 0
UnlocksKeep = KeepsTheAccount (IsAtAction Unlock)

-- what the free lock guards goes to the thread
abbrev pub LocksKeep : Type 0
LocksKeep = KeepsTheAccount (IsAtAction Lock)

-- what the lock invariant asks for goes from the thread to the lock, and the object is committed
abbrev pub CommitsKeep : Type 0
CommitsKeep = KeepsTheAccount (IsAtAction Commit)

-- what the precondition of `run` asks for goes to a new thread
abbrev pub ForksKeep : Type 0
ForksKeep = KeepsTheAccount (IsAtAction Fork)

-- what the ended `run` left goes to the thread that joins
abbrev pub JoinsKeep : Type 0
JoinsKeep = KeepsTheAccount (IsAtAction Join')

-- at the end of the `run` of an object its postcondition stays for the thread that joins
abbrev pub RunEndsKeep : Type 0
RunEndsKeep = KeepsTheAccount IsAtRunEnd

-- the lock invariants of a program that is verified throughout can be taken in where nothing is held
abbrev pub InvariantsAreTakenIn : Type 0
InvariantsAreTakenIn = (p : Program) → IsVerifiedThroughout p → (heap : Heap) → HeapFits p heap → InvariantsFit p heap

-- in a program that is verified throughout each `run` is bare, and its contract speaks of its object alone
abbrev pub RunsAreBare : Type 0
RunsAreBare = (p : Program) → IsVerifiedThroughout p → RunsFit p
