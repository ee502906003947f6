-- The account of a world: who owns what, and the runs of the judge over what is left of each frame. A step of a thread that is
-- accounted for isn't wrong, and leads to a world that is.
use Rattle.std.specs.Prelude.{◌≡◌, ◌<◌, ℕ, suc, Bool, false, List}
use Rattle.pv_picks.specs.Plain.Core.{Program}
use Rattle.pv_picks.specs.Formulas.Heaps.{Heap}
use Rattle.pv_picks.specs.Machine.Worlds.{Thread, World, has_no_frame}
use Rattle.pv_picks.specs.Machine.Steps.{Result}
use Rattle.account.specs.Frames.{Run, AreRunsOf}
use Rattle.account.specs.Owners.{Owners, total, SumsFit, LocksFit}
use Rattle.account.specs.Objects.{ObjectsFit, RoleFits}
use Rattle.account.specs.Blocks.{BlocksFit}
use Rattle.account.specs.Messages.{MailFits}

-- each frame of each thread has a run, and beyond the count there is no thread
pub record ThreadsRun (p : Program) (flags : ℕ → Bool) (heap : Heap) (count : ℕ) (threads : ℕ → Thread) (runs : ℕ → List Run)
    : Type 0 where
  pub frames : (i : ℕ) → i < count → AreRunsOf p flags heap (threads i).frames (runs i)
  pub live : (i : ℕ) → has_no_frame (threads i).frames ≡ false → i < count

pub record Account (p : Program) (w : World) : Type 0 where
  pub owners : Owners
  pub threads : ThreadsRun p w.committed w.heap w.count w.threads owners.runs
  pub sums : SumsFit w.heap w.state w.committed (total owners w.count (suc w.heap.count))
  pub locks : LocksFit w.count (suc w.heap.count) w.holder owners
  pub objects : ObjectsFit p w.committed w.heap w.state w.holder owners.promise owners.guard
  pub roles : (i : ℕ) → i < w.count
      → RoleFits p w.committed w.heap w.state i (w.threads i).role (w.threads i).frames (owners.runs i)
  pub blocks : BlocksFit p w.committed w.heap w.count w.threads w.block_count w.blocks owners
  pub mail : MailFits p w.committed w.heap w.count w.threads w.blocks owners

-- a step isn't wrong, and the world after it is accounted for
abbrev pub Kept : Program → Result → Type 0
Kept p (Result.Went v) = Account p v
Kept p Result.Waits = Unit {0}
Kept p Result.Ended = Unit {0}
Kept p (Result.Wrong check span) = ⊥
