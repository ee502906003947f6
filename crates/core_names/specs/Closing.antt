-- Where the end of a block stands in what a frame has left to do.
use Rattle.std.specs.Prelude.{Option, List, [], ◌∷◌}
use Rattle.pv_picks.specs.Machine.Tasks.{Task}
use Rattle.pv_picks.specs.Machine.Frames.{Frame}
use Rattle.machine_laws.specs.Closing.{CloseNothing}
use Rattle.core_names.specs.Carrying.{Membership}

abbrev pub CloseNothingBehind : List Task → Type 0
CloseNothingBehind [] = Unit {0}
CloseNothingBehind (task ∷ rest) = CloseNothing rest

-- a frame closes a block at its next step, or never
abbrev pub ClosesFirst : Option Membership → Frame → Type 0
ClosesFirst member f = CloseNothingBehind f.tasks
