-- Frames that local work leads from one to the other: what it never changes.
use Rattle.std.specs.Prelude.{◌≡◌}
use Rattle.pv_picks.specs.Machine.Frames.{Frame}

-- a frame's class, method, object, beginning and old heap are those of another frame
pub record IsStill (f g : Frame) : Type 0 where
  pub class : g.class ≡ f.class
  pub method : g.method ≡ f.method
  pub this : g.this ≡ f.this
  pub begun : g.begun ≡ f.begun
  pub old : g.old ≡ f.old
