-- Where a thread stands: at a step, the first task of its first frame.
use Rattle.std.specs.Prelude.{◌≡◌, ℕ, List, ◌∷◌}
use Rattle.pv_picks.specs.Machine.Tasks.{Step, Task, Stand}
use Rattle.pv_picks.specs.Machine.Frames.{Frame}
use Rattle.pv_picks.specs.Machine.Worlds.{World}

-- a thread stands at a step: its frames, and the tasks of the first
pub record StandsAt (w : World) (i : ℕ) (step : Step) (f : Frame) (below : List Frame) (rest : List Task) : Type 0 where
  pub frames : (w.threads i).frames ≡ f ∷ below
  pub tasks : f.tasks ≡ Stand step ∷ rest
