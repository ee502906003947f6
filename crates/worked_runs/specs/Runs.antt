-- Runs of worked programs by schedules, from heaps that are given.
use Rattle.std.specs.Prelude.{◌≡◌, ◌^◌, ℕ, pos, true, false, Option, Some, None, List, [], ◌∷◌, map}
use Rattle.pv_values.specs.declared.value.Value.{Value}
use Rattle.pv_values.specs.declared.value.Value.TheVariants.{Number, Reference}
use Rattle.pv_values.specs.declared.value.Location.TheVariants.{Field, Cell}
use Rattle.pv_values.specs.declared.thing.Thing.{Thing}
use Rattle.pv_values.specs.declared.thing.Thing.TheVariants.{Object, Array}
use Rattle.pv_picks.specs.Plain.Core.{Stop, Method, Program}
use Rattle.pv_picks.specs.Plain.Members.{method_named}
use Rattle.pv_picks.specs.Machine.Worlds.{Mode, Free, Ordered, World}
use Rattle.pv_picks.specs.Machine.Steps.{Result, act}
use Rattle.pv_picks.specs.Machine.Starts.{Start, first_world, true_formula}
use Rattle.pv_picks.specs.Machine.Safety.{Race, may_step, run_events, world_after}
use Rattle.pv_picks.specs.Machine.LoopRuns.{StandsAtLoop, IsLoopRun}
use Rattle.worked_runs.specs.Schedules.{Ran, event, go, rest, begin, all_ended, first_able, values_at, variable_of}
use Rattle.worked_programs.specs.Nodes.{name}
use Rattle.worked_programs.specs.CoreObjects.{writers, grow}
use Rattle.worked_programs.specs.CoreArrays.{fill}
use Rattle.worked_programs.specs.CoreThreads.{copying, twice}

abbrev pub whole_number : ℕ → Value
whole_number n = Number (pos n)

-- what stands where no method is declared
abbrev pub no_method : Method
no_method = record {
  name = None;
  parameters = [];
  result = None;
  contract = record { before = true_formula; after = true_formula };
  body = Stop;
  old = false;
}

abbrev pub or_no_method : Option Method → Method
or_no_method None = no_method
or_no_method (Some m) = m

-- a method of an object, with arguments, in a heap
abbrev pub starts : Program → List Thing → ℕ → ℕ → ℕ → List Value → Start
starts p heap class object method arguments =
    record {
      heap = heap;
      class = name class;
      object = object;
      method = or_no_method (method_named p (name class) (name method));
      arguments = arguments;
    }

abbrev pub from : Start → Ran
from s = begin (first_world s)

-- Two threads that write one field: two forks, and each writer reads its own field.

abbrev pub writers_start : Start
writers_start = starts writers
    (Object (name 1) ((name 3, whole_number 0) ∷ []) ∷ Object (name 0) ((name 2, Reference 1) ∷ [])
    ∷ Object (name 0) ((name 2, Reference 1) ∷ []) ∷ Object (name 4) [] ∷ [])
    4 4 5 (Reference 2 ∷ Reference 3 ∷ [])

abbrev pub at_the_writes : Ran
at_the_writes = go writers Free 2 1 (go writers Free 1 1 (go writers Free 0 2 (from writers_start)))

abbrev pub WritersRace : Type 0
WritersRace = (at_the_writes.steps ≡ 4) × Race writers at_the_writes.world

-- Two workers fill the halves of an array.

abbrev pub filled : Ran
filled = rest fill Free 100
    (from (starts fill (Object (name 6) [] ∷ Array (whole_number 0 ∷ whole_number 0 ∷ []) ∷ []) 6 1 9
    (Reference 2 ∷ whole_number 1 ∷ whole_number 2 ∷ [])))

abbrev pub WorkersFill : Type 0
WorkersFill = (filled.steps ≡ 29) × (all_ended filled.world ≡ true)
    × (values_at filled.world
    (Cell 2 (pos 0) ∷ Cell 2 (pos 1) ∷ Field 3 (name 1) ∷ Field 3 (name 2) ∷ Field 3 (name 3) ∷ Field 4 (name 1)
    ∷ Field 4 (name 2) ∷ Field 4 (name 3) ∷ [])
    ≡ map Some (whole_number 1 ∷ whole_number 1 ∷ Reference 2 ∷ whole_number 0 ∷ whole_number 1 ∷ Reference 2 ∷ whole_number 1
    ∷ whole_number 2 ∷ []))

-- Members of a counted loop send to the next one.

abbrev pub copying_start : Start
copying_start = starts copying
    (Object (name 0) [] ∷ Array (whole_number 0 ∷ whole_number 0 ∷ []) ∷ Array (whole_number 5 ∷ whole_number 6 ∷ [])
    ∷ Array (whole_number 0 ∷ whole_number 0 ∷ []) ∷ [])
    0 1 6 (Reference 2 ∷ Reference 3 ∷ Reference 4 ∷ whole_number 2 ∷ [])

-- the second member steps first, as far as it may
abbrev pub second_first : Mode → Ran
second_first mode = go copying mode 2 3 (go copying mode 0 1 (from copying_start))

abbrev pub copied : Mode → Ran
copied mode = rest copying mode 100 (second_first mode)

abbrev pub arrays_at : World → List (Option Value)
arrays_at w = values_at w
    (Cell 2 (pos 0) ∷ Cell 2 (pos 1) ∷ Cell 3 (pos 0) ∷ Cell 3 (pos 1) ∷ Cell 4 (pos 0) ∷ Cell 4 (pos 1) ∷ [])

abbrev pub copied_arrays : List (Option Value)
copied_arrays = map Some
    (whole_number 5 ∷ whole_number 6 ∷ whole_number 5 ∷ whole_number 6 ∷ whole_number 0 ∷ whole_number 5 ∷ [])

-- the loop alone, its members in the order of a list
abbrev pub loop_run : Mode → List ℕ → World
loop_run mode order =
    run_events copying (map (event mode) order)
    (world_after (first_world copying_start) (act copying (first_world copying_start) mode 0))

abbrev pub free_order : List ℕ
free_order = 2 ∷ 2 ∷ 2 ∷ 1 ∷ 1 ∷ 1 ∷ 1 ∷ 1 ∷ 2 ∷ 2 ∷ 2 ∷ 2 ∷ []

abbrev pub ordered_order : List ℕ
ordered_order = 1 ∷ 1 ∷ 1 ∷ 1 ∷ 1 ∷ 2 ∷ 2 ∷ 2 ∷ 2 ∷ 2 ∷ 2 ∷ 2 ∷ []

abbrev pub freely : World
freely = loop_run Free free_order

abbrev pub in_order : World
in_order = loop_run Ordered ordered_order

abbrev pub MembersCopy : Type 0
MembersCopy =
    ((second_first Free).steps ≡ 4) × (act copying (second_first Free).world Free 2 ≡ Result.Waits)
    × (act copying (second_first Free).world Free 0 ≡ Result.Waits)
    × ((copied Free).steps ≡ 15) × (all_ended (copied Free).world ≡ true) × (arrays_at (copied Free).world ≡ copied_arrays)

abbrev pub OrderedMembersWait : Type 0
OrderedMembersWait =
    ((second_first Ordered).steps ≡ 1) × (may_step copying (second_first Ordered).world 2 ≡ false)
    × ((copied Ordered).steps ≡ 15) × (all_ended (copied Ordered).world ≡ true)
    × (arrays_at (copied Ordered).world ≡ copied_arrays)

abbrev pub LoopsEndAlike : Type 0
LoopsEndAlike = StandsAtLoop (first_world copying_start) 0 × IsLoopRun copying (first_world copying_start) 0 Free freely
    × IsLoopRun copying (first_world copying_start) 0 Ordered in_order × (arrays_at freely ≡ copied_arrays)
    × (arrays_at in_order ≡ copied_arrays)

-- A lock that is taken twice: after three steps nobody may step.

abbrev pub locked_twice : Ran
locked_twice = rest twice Free 100 (from (starts twice (Object (name 4) [] ∷ []) 4 1 5 []))

abbrev pub LocksOnce : Type 0
LocksOnce = (locked_twice.steps ≡ 3) × (act twice locked_twice.world Free 0 ≡ Result.Waits)
    × (first_able twice locked_twice.world ≡ None) × (all_ended locked_twice.world ≡ false)
    × (values_at locked_twice.world (Field 2 (name 0) ∷ Field 2 (name 1) ∷ []) ≡ map Some (whole_number 0 ∷ whole_number 0 ∷ []))

-- A number that doubles in each turn of a loop.

abbrev pub grown : ℕ → Ran
grown n = go grow Free 0 n (from (starts grow (Object (name 0) [] ∷ []) 0 1 1 []))

abbrev pub GrowsOn : Type 0
GrowsOn = (variable_of (grown 126).world (name 2) ≡ Some (whole_number (2 ^ 126)))
    × (variable_of (grown 127).world (name 2) ≡ Some (whole_number (2 ^ 127)))
