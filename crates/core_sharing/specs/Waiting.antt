-- The barriers that a frame has still to come to.
use Rattle.std.specs.Prelude.{◌≡◌, ◌⊎◌, Option, List, [], ◌∷◌}
use Rattle.pv_picks.specs.Plain.Core.{Barrier}
use Rattle.pv_picks.specs.Machine.Tasks.{Step, AtHead, AtOpen, AtArrive, AtLeave, Task, Branch, Turn, Run, Stand}
use Rattle.pv_picks.specs.Machine.Frames.{Frame}
use Rattle.core_names.specs.Carrying.{Membership}
use Rattle.core_sharing.specs.Places.{StandsInBlock, PlacesTell}

abbrev pub IsLeftAt : Barrier → Step → Type 0
IsLeftAt x (AtHead named loop) = StandsInBlock x loop.body
IsLeftAt x (AtOpen team body) = StandsInBlock x body
IsLeftAt x (AtArrive barrier span) = x ≡ barrier
IsLeftAt x (AtLeave barrier span) = x ≡ barrier
IsLeftAt x _ = ⊥

abbrev pub IsLeftIn : Barrier → Task → Type 0
IsLeftIn x (Branch a b) = StandsInBlock x a ⊎ StandsInBlock x b
IsLeftIn x (Turn loop) = StandsInBlock x loop.body
IsLeftIn x (Run body) = StandsInBlock x body
IsLeftIn x (Stand step) = IsLeftAt x step
IsLeftIn x _ = ⊥

abbrev pub IsLeft : Barrier → List Task → Type 0
IsLeft x [] = ⊥
IsLeft x (task ∷ rest) = IsLeftIn x task ⊎ IsLeft x rest

-- all that are left stand in the body of the frame's method, where at one place there is one
pub record KeepsBarriers (member : Option Membership) (f : Frame) : Type 0 where
  pub left : (x : Barrier) → IsLeft x f.tasks → StandsInBlock x f.method.body
  pub tell : PlacesTell f.method.body
