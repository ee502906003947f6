-- Runs that are told by a schedule: so many steps of one thread, or of whichever thread may step first.
use Rattle.std.specs.Prelude.{ℕ, zero, suc, Bool, if◌then◌else◌, Option, Some, None, List, [], ◌∷◌, map}
use Rattle.pv_values.specs.declared.value.Value.{Value}
use Rattle.pv_values.specs.declared.value.Location.{Location}
use Rattle.pv_base.specs.declared.Name.{Name}
use Rattle.pv_picks.specs.Plain.Core.{Program}
use Rattle.pv_picks.specs.Machine.Frames.{Frame}
use Rattle.pv_picks.specs.Machine.Worlds.{Mode, World, has_ended, each_from}
use Rattle.pv_picks.specs.Machine.Safety.{Event, happens, may_step}

-- a world, and how many steps led to it
pub record Ran : Type 0 where
  pub steps : ℕ
  pub world : World

abbrev pub event : Mode → ℕ → Event
event mode i = record { thread = i; mode = mode }

-- one step of a thread, which is counted where it goes
abbrev pub step : Program → Mode → ℕ → Ran → Ran
step p mode i ran = record {
  steps = if may_step p ran.world i then suc ran.steps else ran.steps;
  world = happens p (event mode i) ran.world;
}

-- so many steps of one thread
abbrev pub go : Program → Mode → ℕ → ℕ → Ran → Ran
go p mode i zero ran = ran
go p mode i (suc n) ran = go p mode i n (step p mode i ran)

-- the first of so many threads that may step
abbrev pub least : Program → World → ℕ → ℕ → Option ℕ
least p w i zero = None
least p w i (suc n) = if may_step p w i then Some i else least p w (suc i) n

abbrev pub step_of : Program → Mode → Option ℕ → Ran → Ran
step_of p mode None ran = ran
step_of p mode (Some i) ran = step p mode i ran

-- at most so many steps, each of the first thread that may step
abbrev pub rest : Program → Mode → ℕ → Ran → Ran
rest p mode zero ran = ran
rest p mode (suc n) ran = rest p mode n (step_of p mode (least p ran.world 0 ran.world.count) ran)

abbrev pub begin : World → Ran
begin w = record { steps = 0; world = w }

abbrev pub all_ended : World → Bool
all_ended w = each_from (has_ended w) 0 w.count

-- the first thread that may step, if any may
abbrev pub first_able : Program → World → Option ℕ
first_able p w = least p w 0 w.count

-- what stands at each of some locations
abbrev pub values_at : World → List Location → List (Option Value)
values_at w locations = map (λ location. w.heap.value location) locations

-- what a variable of the innermost frame holds
abbrev pub variable_on_top : List Frame → Name → Option Value
variable_on_top [] name = None
variable_on_top (f ∷ below) name = Some (f.variables name.0)

-- what a variable of the first thread holds
abbrev pub variable_of : World → Name → Option Value
variable_of w name = variable_on_top (w.threads 0).frames name
