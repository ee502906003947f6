-- Runs of two worked programs that aren't safe: members that race, and a loop whose end depends on the order of its members.
use Rattle.std.specs.Prelude.{ℕ, pos, List, [], ◌∷◌, map}
use Rattle.pv_values.specs.declared.value.Value.TheVariants.{Number}
use Rattle.pv_values.specs.declared.thing.Thing.TheVariants.{Object}
use Rattle.pv_picks.specs.Plain.Core.{Program}
use Rattle.pv_picks.specs.Machine.Worlds.{Mode, Free, World}
use Rattle.pv_picks.specs.Machine.Steps.{act}
use Rattle.pv_picks.specs.Machine.Starts.{Start, first_world}
use Rattle.pv_picks.specs.Machine.Safety.{Race, IsSafe, run_events, world_after}
use Rattle.pv_picks.specs.Machine.LoopRuns.{AgreesOnLoops}
use Rattle.pv_picks.specs.Verdicts.Theorems.{IsVerified}
use Rattle.worked_programs.specs.Nodes.{name}
use Rattle.worked_programs.specs.CoreWitnesses as cores
use Rattle.worked_programs.specs.Witnesses.{members_race, overwritten}
use Rattle.worked_runs.specs.Runs.{starts}
use Rattle.worked_runs.specs.Schedules.{event}

-- the method of an object whose field is 0
abbrev pub from_zero : Program → Start
from_zero p = starts p (Object (name 0) ((name 1, Number (pos 0)) ∷ []) ∷ []) 0 1 2 []

-- the block is opened, and both members stand before their writes
abbrev pub at_the_writes : World
at_the_writes = run_events cores.members_race (event Free 0 ∷ []) (first_world (from_zero cores.members_race))

abbrev pub MembersRace : Type 0
MembersRace = Race cores.members_race at_the_writes

abbrev pub MembersAreNotSafe : Type 0
MembersAreNotSafe = IsSafe cores.members_race → ⊥

-- so by soundness some evidence makes the judge fail
abbrev pub MembersAreNotVerified : Type 0
MembersAreNotVerified = IsVerified members_race → ⊥

-- the end of the loop's run in an order of its members
abbrev pub loop_end : Mode → List ℕ → World
loop_end mode order =
    run_events cores.overwritten (map (event mode) order)
    (world_after (first_world (from_zero cores.overwritten))
    (act cores.overwritten (first_world (from_zero cores.overwritten)) mode 0))

abbrev pub OverwrittenDisagrees : Type 0
OverwrittenDisagrees = AgreesOnLoops cores.overwritten → ⊥

abbrev pub OverwrittenIsNotVerified : Type 0
OverwrittenIsNotVerified = IsVerified overwritten → ⊥
