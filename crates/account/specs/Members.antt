-- Members of a block that stand in their own bodies.
use Rattle.std.specs.Prelude.{◌≡◌, ℕ, ℤ, List, [], ◌∷◌}
use Rattle.pv_base.specs.declared.Span.{Span}
use Rattle.pv_picks.specs.Plain.Core.{Barrier}
use Rattle.pv_picks.specs.Machine.Tasks.{AtLeave, Task, Stand}
use Rattle.pv_picks.specs.Machine.Frames.{Frame}
use Rattle.pv_picks.specs.Machine.Worlds.{MemberOf, World}

-- a member of a block stands in its own body, with these tasks
pub record IsMemberAt (w : World) (i b : ℕ) (position : ℤ) (f : Frame) (tasks : List Task) : Type 0 where
  pub role : (w.threads i).role ≡ MemberOf b position
  pub stack : (w.threads i).frames ≡ f ∷ []
  pub stands : f.tasks ≡ tasks

-- a member stands where it leaves a barrier, in its own body
pub record LeavesAt (w : World) (j : ℕ) (barrier : Barrier) : Type 0 where
  pub frame : Frame
  pub span : Span
  pub rest : List Task
  pub stack : (w.threads j).frames ≡ frame ∷ []
  pub stands : frame.tasks ≡ Stand (AtLeave barrier span) ∷ rest
