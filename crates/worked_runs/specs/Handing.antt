-- Two threads at one object: one unlocks what the other has locked; and an object whose thread has ended is forked again:
--   lock_invariant true; class Item { run { unlock this; } void main() { commit this; lock this; fork this; } }
--   class Twice { run { } void main() { fork this; fork this; } }
use Rattle.std.specs.Prelude.{false, List, [], ◌∷◌, Some, None}
use Rattle.pv_base.specs.declared.Name.{Name}
use Rattle.pv_base.specs.declared.Span.{Span}
use Rattle.pv_values.specs.declared.thing.Thing.TheVariants as thing
use Rattle.pv_picks.specs.Plain.Core.{This, Act, Action, Fork, Unlock, Lock, Commit, Statement, IsMethod, Method, Program}
use Rattle.pv_picks.specs.Machine.Worlds.{Free}
use Rattle.pv_picks.specs.Machine.Starts.{Start, first_world}
use Rattle.worked_runs.specs.Building.{named, anything, promises, block, has_run}
use Rattle.worked_runs.specs.Schedules.{Ran, go, begin}

abbrev pub item : Name
item = named 0

abbrev pub main : Name
main = named 1

abbrev pub at_statement : Span
at_statement = record { from = 1; to = 2 }

abbrev pub on_this : Action → Statement
on_this action = Act action item This at_statement

abbrev pub main_method : List Statement → Method
main_method statements = record {
  name = Some main;
  parameters = [];
  result = None;
  contract = promises anything anything;
  body = block statements;
  old = false;
}

-- a class with the body of its `run` and the body of its main method
abbrev pub program : List Statement → List Statement → Program
program run statements = record {
  name = item;
  lock_invariant = Some anything;
  members = has_run (promises anything anything) run ∷ IsMethod (main_method statements) ∷ [];
} ∷ []

abbrev pub start : List Statement → Start
start statements =
    record { heap = thing.Object item [] ∷ []; class = item; object = 1; method = main_method statements; arguments = [] }

abbrev pub locks_and_forks : List Statement
locks_and_forks = on_this Commit ∷ on_this Lock ∷ on_this Fork ∷ []

abbrev pub unlocks : Program
unlocks = program (on_this Unlock ∷ []) locks_and_forks

-- the main thread holds the lock, and the other one is to unlock it
abbrev pub held_by_another : Ran
held_by_another = go unlocks Free 0 3 (begin (first_world (start locks_and_forks)))

abbrev pub forks_twice : List Statement
forks_twice = on_this Fork ∷ on_this Fork ∷ []

abbrev pub forks : Program
forks = program [] forks_twice

-- the object's thread was forked and has ended
abbrev pub ended_alone : Ran
ended_alone = go forks Free 1 1 (go forks Free 0 1 (begin (first_world (start forks_twice))))
