-- Two members that meet at a barrier, after which each reads what the other wrote:
--   class Swap { void swap(int[] a, int[] b) { par team (int i = 0 .. 2) { a[i] = i + 1; barrier(team) { } b[i] = a[1 - i]; } } }
-- with the permissions that they need.
use Rattle.std.specs.Prelude.{pos, false, List, [], ◌∷◌, map, Option, Some, None}
use Rattle.pv_base.specs.declared.Name.{Name}
use Rattle.pv_ast.specs.declared.PvType.TheVariants.{IntArray}
use Rattle.pv_values.specs.declared.value.Value.{Value}
use Rattle.pv_values.specs.declared.value.Location.{Location}
use Rattle.pv_values.specs.declared.value.Location.TheVariants.{Cell}
use Rattle.pv_values.specs.declared.thing.Thing.TheVariants as thing
use Rattle.pv_picks.specs.Plain.Core.{NoItems, Shared, Members, Meet, IsMethod, Program, Method}
use Rattle.pv_picks.specs.Machine.Worlds.{Free}
use Rattle.pv_picks.specs.Machine.Starts.{Start, first_world}
use Rattle.worked_runs.specs.Building.{nowhere, named, integer, reference, number, variable, element, plus, minus, anything, promises, block, set_element}
use Rattle.worked_runs.specs.Schedules.{Ran, go, rest, begin}

abbrev pub swap_class : Name
swap_class = named 0

abbrev pub a : Name
a = named 1

abbrev pub b : Name
b = named 2

abbrev pub i : Name
i = named 3

abbrev pub swap : Name
swap = named 4

abbrev pub nothing_shared : Shared
nothing_shared = record { one = promises anything anything; each_before = NoItems; each_after = NoItems }

abbrev pub swap_method : Method
swap_method = record {
  name = Some swap;
  parameters = (a, IntArray) ∷ (b, IntArray) ∷ [];
  result = None;
  contract = promises anything anything;
  body = block (Members (record { counted = false; variable = i; low = number 0; high = number 2; shared = nothing_shared })
      (block (set_element (variable a) (variable i) (plus (variable i) (number 1))
      ∷ Meet (record { place = 0 ∷ 1 ∷ []; shared = nothing_shared }) nowhere
      ∷ set_element (variable b) (variable i) (element (variable a) (minus (number 1) (variable i)))
      ∷ []))
      nowhere
      ∷ []);
  old = false;
}

abbrev pub program : Program
program = record { name = swap_class; lock_invariant = None; members = IsMethod swap_method ∷ [] } ∷ []

abbrev pub start : Start
start = record {
  heap = thing.Object swap_class [] ∷ thing.Array (integer 0 ∷ integer 0 ∷ []) ∷ thing.Array (integer 0 ∷ integer 0 ∷ []) ∷ [];
  class = swap_class;
  object = 1;
  method = swap_method;
  arguments = reference 2 ∷ reference 3 ∷ [];
}

-- the block is opened, and the first member writes and arrives
abbrev pub one_arrived : Ran
one_arrived = go program Free 1 2 (go program Free 0 1 (begin (first_world start)))

-- the second one does too
abbrev pub both_arrived : Ran
both_arrived = go program Free 2 2 one_arrived

-- one step, by the second member, takes both on
abbrev pub both_left : Ran
both_left = go program Free 2 1 both_arrived

abbrev pub ran : Ran
ran = rest program Free 100 both_left

abbrev pub elements_at_end : List Location
elements_at_end = Cell 2 (pos 0) ∷ Cell 2 (pos 1) ∷ Cell 3 (pos 0) ∷ Cell 3 (pos 1) ∷ []

abbrev pub expected : List (Option Value)
expected = map Some (integer 1 ∷ integer 2 ∷ integer 2 ∷ integer 1 ∷ [])
