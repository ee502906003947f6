-- What the law of a label says: the step isn't wrong, and the world after it is accounted for.
use Rattle.std.specs.Prelude.{◌≡◌, ℕ, List, ◌∷◌}
use Rattle.pv_picks.specs.Plain.Core.{Program}
use Rattle.pv_picks.specs.Machine.Frames.{Frame}
use Rattle.pv_picks.specs.Machine.Worlds.{Role, Mode, World}
use Rattle.pv_picks.specs.Machine.Steps.{act}
use Rattle.pv_picks.specs.Machine.Safety.{IsReached}
use Rattle.account.specs.Accounts.{Account, Kept}
use Rattle.account.specs.Verified.{IsVerifiedThroughout}

-- where a thread's innermost frame stands, with the frames below it and the thread's role
abbrev pub Standing : Type 1
Standing = Frame → List Frame → Role → Type 0

-- in a reached world that is accounted for, of a program that is verified throughout, the step of a thread that stands so isn't
-- wrong, and the world after it is accounted for
abbrev pub KeepsTheAccount : Standing → Type 0
KeepsTheAccount Stands = (p : Program) → IsVerifiedThroughout p → (w : World) → IsReached p w → Account p w
    → (i : ℕ) (f : Frame) (below : List Frame) → (w.threads i).frames ≡ f ∷ below → Stands f below (w.threads i).role
    → (mode : Mode) → Kept p (act p w mode i)
