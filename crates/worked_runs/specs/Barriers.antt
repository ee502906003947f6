-- Members at barriers: two that stand at different barriers of a block, and two blocks within a block, whose members meet apart.
--   class Meet { void apart() { par team (int i = 0 .. 2) { if (i == 0) { barrier(team) { } } else { barrier(team) { } } } }
--     void nested() { par outer (int i = 0 .. 2) { par inner (int j = 0 .. 2) { barrier(inner) { } } } } }
use Rattle.std.specs.Prelude.{ℕ, false, List, [], ◌∷◌, Some, None}
use Rattle.pv_base.specs.declared.Name.{Name}
use Rattle.pv_values.specs.declared.thing.Thing.TheVariants as thing
use Rattle.pv_picks.specs.Plain.Core.{NoItems, Shared, Statement, If, Members, Meet, IsMethod, Program, Method}
use Rattle.pv_picks.specs.Machine.Worlds.{Free}
use Rattle.pv_picks.specs.Machine.Starts.{Start, first_world}
use Rattle.worked_runs.specs.Building.{nowhere, named, number, variable, equals, anything, promises, block}
use Rattle.worked_runs.specs.Schedules.{Ran, go, rest, begin}

abbrev pub meeting : Name
meeting = named 0

abbrev pub i : Name
i = named 1

abbrev pub j : Name
j = named 2

abbrev pub main : Name
main = named 3

abbrev pub nothing_shared : Shared
nothing_shared = record { one = promises anything anything; each_before = NoItems; each_after = NoItems }

-- a barrier, by the way to it
abbrev pub meet : List ℕ → Statement
meet place = Meet (record { place = place; shared = nothing_shared }) nowhere

-- two members
abbrev pub two_members : Name → List Statement → Statement
two_members position body =
    Members (record { counted = false; variable = position; low = number 0; high = number 2; shared = nothing_shared })
    (block body) nowhere

abbrev pub main_method : Statement → Method
main_method statement = record {
  name = Some main;
  parameters = [];
  result = None;
  contract = promises anything anything;
  body = block (statement ∷ []);
  old = false;
}

abbrev pub program : Statement → Program
program statement = record { name = meeting; lock_invariant = None; members = IsMethod (main_method statement) ∷ [] } ∷ []

abbrev pub start : Statement → Start
start statement =
    record { heap = thing.Object meeting [] ∷ []; class = meeting; object = 1; method = main_method statement; arguments = [] }

abbrev pub apart : Statement
apart = two_members i (If (equals (variable i) (number 0)) (block (meet (0 ∷ 0 ∷ []) ∷ [])) (block (meet (0 ∷ 1 ∷ []) ∷ [])) ∷ [])

-- whoever may step first, until nobody may
abbrev pub apart_ran : Ran
apart_ran = rest (program apart) Free 100 (begin (first_world (start apart)))

abbrev pub nested : Statement
nested = two_members i (two_members j (meet (0 ∷ 0 ∷ []) ∷ []) ∷ [])

-- all blocks are opened: threads 3 and 4 are the members of the one within, 5 and 6 of the other
abbrev pub opened : Ran
opened = go (program nested) Free 2 1
    (go (program nested) Free 1 1 (go (program nested) Free 0 1 (begin (first_world (start nested)))))

-- one member of each has arrived
abbrev pub one_each : Ran
one_each = go (program nested) Free 5 1 (go (program nested) Free 3 1 opened)

-- both of the first have arrived, and leave in one step
abbrev pub first_left : Ran
first_left = go (program nested) Free 3 1 (go (program nested) Free 4 1 one_each)

abbrev pub nested_ran : Ran
nested_ran = rest (program nested) Free 100 first_left
