-- Runs of the verified programs: each has a start, and comes to its end.
use Rattle.std.specs.Prelude.{◌≡◌, ℕ, pos, true, Option, Some, List, [], ◌∷◌}
use Rattle.pv_values.specs.declared.value.Value.{Value}
use Rattle.pv_values.specs.declared.value.Value.TheVariants.{Number}
use Rattle.pv_values.specs.declared.value.Location.{Location}
use Rattle.pv_values.specs.declared.value.Location.TheVariants.{Field}
use Rattle.pv_values.specs.declared.thing.Thing.TheVariants.{Object}
use Rattle.pv_picks.specs.Plain.Core.{Program}
use Rattle.pv_picks.specs.Machine.Worlds.{Free}
use Rattle.pv_picks.specs.Machine.Steps.{Result, act}
use Rattle.pv_picks.specs.Machine.Starts.{Start, IsStart}
use Rattle.pv_picks.specs.Machine.Safety.{may_step}
use Rattle.worked_programs.specs.Nodes.{name}
use Rattle.worked_programs.specs.CoreWitnesses.{divided, handed, relay, posted, list}
use Rattle.worked_runs.specs.Runs.{starts, from}
use Rattle.worked_runs.specs.Schedules.{Ran, go, rest, all_ended, values_at}
use Rattle.worked_threads_safety.specs.Wrong.{from_zero}

abbrev pub number : ℕ → Option Value
number n = Some (Number (pos n))

-- a method of an object without fields
abbrev pub from_main : Program → ℕ → ℕ → Start
from_main p class method = starts p (Object (name class) [] ∷ []) class 1 method []

-- a run from the start comes to its end, and leaves these values
abbrev pub EndsWith : Program → Ran → List Location → List (Option Value) → Type 0
EndsWith p ran locations values =
    (all_ended (rest p Free 100 ran).world ≡ true) × (values_at (rest p Free 100 ran).world locations ≡ values)

-- the main thread takes the lock first
abbrev pub main_locks : Ran
main_locks = go handed Free 0 4 (from (from_main handed 2 3))

-- it writes and gives the lock
abbrev pub main_unlocks : Ran
main_unlocks = go handed Free 0 2 main_locks

-- the thread waits for the lock until the main thread gives it; what the thread writes stands there at the end
abbrev pub LockIsHandedOn : Type 0
LockIsHandedOn =
    IsStart handed (from_main handed 2 3) × (act handed main_locks.world Free 1 ≡ Result.Waits)
    × (may_step handed main_unlocks.world 1 ≡ true)
    × EndsWith handed main_unlocks (Field 2 (name 0) ∷ []) (number 1 ∷ [])

-- what the second member writes stands there at the end
abbrev pub FieldIsRelayed : Type 0
FieldIsRelayed =
    IsStart relay (from_zero relay) × EndsWith relay (from (from_zero relay)) (Field 1 (name 1) ∷ []) (number 2 ∷ [])

abbrev pub FieldIsSent : Type 0
FieldIsSent =
    IsStart posted (from_zero posted) × EndsWith posted (from (from_zero posted)) (Field 1 (name 1) ∷ []) (number 2 ∷ [])

-- both members read the field, and the method writes it
abbrev pub FieldIsDivided : Type 0
FieldIsDivided =
    IsStart divided (from_zero divided)
    × EndsWith divided (from (from_zero divided)) (Field 1 (name 1) ∷ []) (number 3 ∷ [])

-- each of the two nodes is counted up
abbrev pub ListIsGoneThrough : Type 0
ListIsGoneThrough =
    IsStart list (from_main list 5 6)
    × EndsWith list (from (from_main list 5 6)) (Field 2 (name 1) ∷ Field 3 (name 1) ∷ []) (number 1 ∷ number 1 ∷ [])
