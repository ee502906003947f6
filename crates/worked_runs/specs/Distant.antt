-- Members that send two positions on:
--   class Dep { void pass() { for (int i = 0 .. 3) { send S, 2: true; recv S; } } }
use Rattle.std.specs.Prelude.{true, false, [], ◌∷◌, Some, None}
use Rattle.pv_base.specs.declared.Name.{Name}
use Rattle.pv_values.specs.declared.thing.Thing.TheVariants as thing
use Rattle.pv_picks.specs.Plain.Core.{NoItems, Message, Members, Send, Receive, IsMethod, Program, Method}
use Rattle.pv_picks.specs.Machine.Worlds.{Free}
use Rattle.pv_picks.specs.Machine.Starts.{Start, first_world}
use Rattle.worked_runs.specs.Building.{nowhere, named, number, anything, promises, block}
use Rattle.worked_runs.specs.Schedules.{Ran, go, rest, begin}

abbrev pub dep : Name
dep = named 0

abbrev pub i : Name
i = named 1

abbrev pub pass : Name
pass = named 2

abbrev pub s : Name
s = named 3

abbrev pub message : Message
message = record { label = s; distance = 2; formula = anything }

abbrev pub pass_method : Method
pass_method = record {
  name = Some pass;
  parameters = [];
  result = None;
  contract = promises anything anything;
  body = block (Members (record {
    counted = true;
    variable = i;
    low = number 0;
    high = number 3;
    shared = record { one = promises anything anything; each_before = NoItems; each_after = NoItems };
  })
      (block (Send message nowhere ∷ Receive message nowhere ∷ []))
      nowhere
      ∷ []);
  old = false;
}

abbrev pub program : Program
program = record { name = dep; lock_invariant = None; members = IsMethod pass_method ∷ [] } ∷ []

abbrev pub start : Start
start = record { heap = thing.Object dep [] ∷ []; class = dep; object = 1; method = pass_method; arguments = [] }

-- the loop is opened, and the third member comes to its receive
abbrev pub third_first : Ran
third_first = go program Free 3 1 (go program Free 0 1 (begin (first_world start)))

-- the second member goes to its end: nobody stands two positions before or behind it
abbrev pub second_ended : Ran
second_ended = go program Free 2 3 third_first

-- the first member sends
abbrev pub first_sent : Ran
first_sent = go program Free 1 1 second_ended

abbrev pub ran : Ran
ran = rest program Free 100 first_sent
