-- When a program agrees on its counted loops: run freely, a loop ends, if it ends, in the heap of its ordered run.
use Rattle.std.specs.Prelude.{◌≡◌, ℕ, ◌<◌, ◌≤◌, Bool, true, false, List, [], ◌∷◌, map}
use Rattle.pv_values.specs.declared.value.Location.{Location}
use Rattle.pv_picks.specs.Plain.Core.{Program}
use Rattle.pv_picks.specs.Formulas.Heaps.{Heap}
use Rattle.pv_picks.specs.Machine.Tasks.{Task, AtOpen, Stand}
use Rattle.pv_picks.specs.Machine.Frames.{Frame}
use Rattle.pv_picks.specs.Machine.Worlds.{Mode, Free, Ordered, World, has_ended}
use Rattle.pv_picks.specs.Machine.Steps.{Result, act}
use Rattle.pv_picks.specs.Machine.Safety.{run_events, IsReached, IsSafe}

-- two heaps that are one map
pub record AreSame (a b : Heap) : Type 0 where
  pub counts : a.count ≡ b.count
  pub classes : (n : ℕ) → a.class n ≡ b.class n
  pub lengths : (n : ℕ) → a.length n ≡ b.length n
  pub values : (location : Location) → a.value location ≡ b.value location

abbrev pub opens_loop : List Task → Bool
opens_loop (Stand (AtOpen team body) ∷ rest) = team.counted
opens_loop _ = false

abbrev pub frames_at_loop : List Frame → Bool
frames_at_loop [] = false
frames_at_loop (f ∷ below) = opens_loop f.tasks

-- a thread stands where it opens a counted loop
abbrev pub StandsAtLoop : World → ℕ → Type 0
StandsAtLoop w i = frames_at_loop (w.threads i).frames ≡ true

-- threads that came between two worlds
abbrev pub IsBetween : World → World → ℕ → Type 0
IsBetween before after j = (before.count ≤ j) × (j < after.count)

abbrev pub AreBetween : World → World → List ℕ → Type 0
AreBetween before after [] = Unit {0}
AreBetween before after (j ∷ js) = IsBetween before after j × AreBetween before after js

-- a run of a loop alone: a thread opens it in a mode, its members step in the order of a list, and then all of them have ended
pub record IsLoopRun (p : Program) (w : World) (i : ℕ) (mode : Mode) (last : World) : Type 0 where
  pub opened : World
  pub opens : act p w mode i ≡ Result.Went opened
  pub order : List ℕ
  pub members : AreBetween w opened order
  pub leads : run_events p (map (λ j. record { thread = j; mode = mode }) order) opened ≡ last
  pub ended : (j : ℕ) → IsBetween w opened j → has_ended last j ≡ true

-- some ordered run ends in the heap, and each that ends does so in it
pub record OrderedEndsIn (p : Program) (w : World) (i : ℕ) (heap : Heap) : Type 0 where
  pub last : World
  pub runs : IsLoopRun p w i Ordered last
  pub each : (other : World) → IsLoopRun p w i Ordered other → AreSame other.heap heap

-- in each reached world, with all other threads paused, a free run of a loop that ends does so in the heap of its ordered run
abbrev pub AgreesOnLoops : Program → Type 0
AgreesOnLoops p = (w : World) → IsReached p w → (i : ℕ) → StandsAtLoop w i → (last : World) → IsLoopRun p w i Free last
    → OrderedEndsIn p w i last.heap

-- no step of any interleaving is wrong, and each loop is as good as its ordered run
abbrev pub IsSound : Program → Type 0
IsSound p = IsSafe p × AgreesOnLoops p
