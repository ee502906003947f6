-- A counted loop whose members all write one element, so that its end depends on the order of its members:
--   class Last { void last(int[] a) { for (int i = 0 .. 2) { a[0] = i; } } }
use Rattle.std.specs.Prelude.{ℕ, true, false, List, [], ◌∷◌, map, Some, None}
use Rattle.pv_base.specs.declared.Name.{Name}
use Rattle.pv_ast.specs.declared.PvType.TheVariants.{IntArray}
use Rattle.pv_values.specs.declared.thing.Thing.TheVariants as thing
use Rattle.pv_picks.specs.Plain.Core.{NoItems, Members, IsMethod, Program, Method}
use Rattle.pv_picks.specs.Machine.Worlds.{Mode, World}
use Rattle.pv_picks.specs.Machine.Steps.{act}
use Rattle.pv_picks.specs.Machine.Safety.{run_events, world_after}
use Rattle.pv_picks.specs.Machine.Starts.{Start, first_world}
use Rattle.worked_runs.specs.Building.{nowhere, named, integer, reference, number, variable, anything, promises, block, set_element}
use Rattle.worked_runs.specs.Schedules.{event}

abbrev pub last_class : Name
last_class = named 0

abbrev pub last : Name
last = named 1

abbrev pub a : Name
a = named 2

abbrev pub i : Name
i = named 3

abbrev pub last_method : Method
last_method = record {
  name = Some last;
  parameters = (a, IntArray) ∷ [];
  result = None;
  contract = promises anything anything;
  body = block (Members (record {
    counted = true;
    variable = i;
    low = number 0;
    high = number 2;
    shared = record { one = promises anything anything; each_before = NoItems; each_after = NoItems };
  })
      (block (set_element (variable a) (number 0) (variable i) ∷ [])) nowhere ∷ []);
  old = false;
}

abbrev pub program : Program
program = record { name = last_class; lock_invariant = None; members = IsMethod last_method ∷ [] } ∷ []

abbrev pub start : Start
start = record {
  heap = thing.Object last_class [] ∷ thing.Array (integer 0 ∷ []) ∷ [];
  class = last_class;
  object = 1;
  method = last_method;
  arguments = reference 2 ∷ [];
}

-- the end of the loop's run in an order of its members
abbrev pub loop_end : Mode → List ℕ → World
loop_end mode order =
    run_events program (map (event mode) order) (world_after (first_world start) (act program (first_world start) mode 0))

abbrev pub second_first : List ℕ
second_first = 2 ∷ 2 ∷ 1 ∷ 1 ∷ []

abbrev pub in_order : List ℕ
in_order = 1 ∷ 1 ∷ 2 ∷ 2 ∷ []
