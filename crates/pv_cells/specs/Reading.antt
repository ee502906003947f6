-- What an expression reads and computes.
use Rattle.std.specs.Prelude.{◌≡◌, ℤ, true, false, Option, None, Some, option_map, List}
use Rattle.pv_values.specs.declared.value.Value.{Value}
use Rattle.pv_picks.specs.declared.evidence.Entry.{Entry}
use Rattle.pv_picks.specs.Formulas.Values.{arithmetic}
use Rattle.pv_picks.specs.Plain.Core.{Operation, Manner, Plain, Tabled}
use Rattle.pv_picks.specs.Judge.States.{Cells, Resource}
use Rattle.pv_picks.specs.Judge.Runs.{Maps, content, value_of_operation}
use Rattle.pv_picks.specs.Formulas.Evaluation.{Scene}
use Rattle.pv_cells.specs.Limits.{fits}
use Rattle.pv_cells.specs.Values.{Surroundings}

-- the value in a location, where there is one
abbrev pub read_in : Maps → Cells → Resource → Option Value
read_in maps cells r = option_map (content maps) (cells r)

-- an operation's value: worked out, or from the table
abbrev pub worked : List Entry → Manner → Operation → ℤ → ℤ → ℤ
worked table Plain operation a b = arithmetic operation a b
worked table Tabled operation a b = value_of_operation table operation a b

abbrev pub around_of : Cells → Cells → Scene → Surroundings
around_of now old scene = record { now = now; old = old; scene = scene }

-- in the old state alone
abbrev pub before : Surroundings → Surroundings
before around = record around { now = around.old }

-- a number, where it is one of 128 bits
abbrev pub IsWithin : ℤ → Option ℤ → Type 0
IsWithin z None = fits z ≡ false
IsWithin z (Some w) = (z ≡ w) × (fits z ≡ true)
