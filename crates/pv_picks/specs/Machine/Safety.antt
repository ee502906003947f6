-- Runs of a program, wrong worlds, and safe programs.
use Rattle.std.specs.Prelude.{◌≡◌, ◌≢◌, ◌⊎◌, ℕ, Bool, true, false, Option, Some, List, [], ◌∷◌}
use Rattle.pv_base.specs.declared.Span.{Span}
use Rattle.pv_values.specs.declared.value.Value.{Value}
use Rattle.pv_values.specs.declared.value.Location.{Location}
use Rattle.pv_picks.specs.declared.check.Check.{Check}
use Rattle.pv_picks.specs.Plain.Core.{Program}
use Rattle.pv_picks.specs.Machine.Labels.{Label}
use Rattle.pv_picks.specs.Machine.Worlds.{Mode, Free, World, next}
use Rattle.pv_picks.specs.Machine.Steps.{Result, act}
use Rattle.pv_picks.specs.Machine.Starts.{Start, IsStart, first_world}

-- one thread steps; the mode is that of the counted loop that it may open
pub record Event : Type 0 where
  pub thread : ℕ
  pub mode : Mode

-- what may not be done changes nothing
abbrev pub world_after : World → Result → World
world_after w (Result.Went v) = v
world_after w Result.Waits = w
world_after w Result.Ended = w
world_after w (Result.Wrong check span) = w

abbrev pub happens : Program → Event → World → World
happens p event w = world_after w (act p w event.mode event.thread)

abbrev pub run_events : Program → List Event → World → World
run_events p [] w = w
run_events p (event ∷ events) w = run_events p events (happens p event w)

-- the worlds that some events lead to from a start
pub record IsReached (p : Program) (w : World) : Type 0 where
  pub start : Start
  pub starts : IsStart p start
  pub events : List Event
  pub leads : run_events p events (first_world start) ≡ w

abbrev pub is_able : Result → Bool
is_able (Result.Went v) = true
is_able Result.Waits = false
is_able Result.Ended = false
is_able (Result.Wrong check span) = true

-- a thread neither waits nor has ended
abbrev pub may_step : Program → World → ℕ → Bool
may_step p w i = is_able (act p w Free i)

-- the next step of a thread is wrong by its own label
abbrev pub IsFault : Program → World → ℕ → Check → Span → Type 0
IsFault p w i check span = act p w Free i ≡ Result.Wrong check span

abbrev pub Writes : Option Label → Location → Type 0
Writes label location = (v : Value) × (label ≡ Some (Label.Write location v))

abbrev pub Reads : Option Label → Location → Type 0
Reads label location = label ≡ Some (Label.Read location)

-- two threads that may step stand at one location, the one to write there, the other to write or to read
pub record Race (p : Program) (w : World) : Type 0 where
  pub writer : ℕ
  pub other : ℕ
  pub differ : writer ≢ other
  pub writer_may : may_step p w writer ≡ true
  pub other_may : may_step p w other ≡ true
  pub location : Location
  pub writes : Writes (next (w.threads writer)) location
  pub touches : Writes (next (w.threads other)) location ⊎ Reads (next (w.threads other)) location

-- some thread's step is wrong, or two threads race; a thread that waits is never wrong
abbrev pub IsWrong : Program → World → Type 0
IsWrong p w = ((i : ℕ) × (check : Check) × (span : Span) × IsFault p w i check span) ⊎ Race p w

-- no world that is reached is wrong: from any start, in any interleaving, of any length
abbrev pub IsSafe : Program → Type 0
IsSafe p = (w : World) → IsReached p w → IsWrong p w → ⊥
