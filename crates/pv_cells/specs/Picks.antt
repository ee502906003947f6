-- What the next of the picks is.
use Rattle.std.specs.Prelude.{◌≡◌, ℤ, Bool, true, false, List}
use Rattle.pv_ast.specs.declared.PvType.{PvType}
use Rattle.pv_ast.specs.declared.PvType.TheVariants.{Int, Truth, Object, IntArray, TruthArray, Null}
use Rattle.pv_values.specs.declared.value.Value.{Value}
use Rattle.pv_picks.specs.declared.evidence.Pick.{Pick}
use Rattle.pv_picks.specs.Judge.Runs.{Blocked}
use Rattle.pv_picks.specs.Judge.States.{State}
use Rattle.pv_picks.specs.Judge.Settings.{pick_value}
use Rattle.pv_cells.specs.declared.halt.Halt.{Halt}
use Rattle.pv_cells.specs.declared.halt.Halt.TheVariants as halt
use Rattle.pv_cells.specs.declared.prepared.Prepared.{Prepared}
use Rattle.pv_cells.specs.declared.store.Learned.{Learned}
use Rattle.pv_cells.specs.Limits.{Limited, Ends, limiting, pick_number, pick_steps}
use Rattle.pv_cells.specs.Parts.{Part, Goes, Halts}
use Rattle.pv_cells.specs.Prepared.{maps_of, table_of, left}
use Rattle.pv_cells.specs.Stores.{with_learned}

-- a number, and these are left
unfoldable pub IsNumber : List Pick → ℤ → List Pick → Type 0
IsNumber picks z rest = (next : ℤ → Limited) → pick_number next picks ≡ next z rest

-- none, or something else
unfoldable pub NoNumber : List Pick → Type 0
NoNumber picks = (next : ℤ → Limited) → pick_number next picks ≡ Ends Blocked

-- the values of a type are references
abbrev pub refers : PvType → Bool
refers Int = false
refers Truth = false
refers (Object class) = true
refers IntArray = true
refers TruthArray = true
refers Null = false

abbrev pub pick_part : Prepared → PvType → Part Value
pick_part given type missing next = pick_value (limiting (maps_of given) (table_of given)) type next

-- a value of the type is picked, and this is learned
unfoldable pub Picked : Prepared → PvType → Learned → Value → Learned → Type 0
Picked given type from v to =
    (s : State) → Goes (pick_part given type) (with_learned s from) (left given from) v (with_learned s to) (left given to)

unfoldable pub Unpicked : Prepared → PvType → Learned → Halt → Learned → Type 0
Unpicked given type from halt to =
    (s : State) → Halts (pick_part given type) (with_learned s from) (left given from) halt (with_learned s to) (left given to)

-- a pick for a range, and these are left
unfoldable pub IsSteps : List Pick → List Pick → Type 0
IsSteps picks rest = (next : Limited) → pick_steps next picks ≡ next rest

-- none, or something else, unless memory ran out
unfoldable pub NoSteps : Halt → List Pick → Type 0
NoSteps halt.Blocked picks = (next : Limited) → pick_steps next picks ≡ Ends Blocked
NoSteps halt.NoMemory picks = Unit {0}
NoSteps _ picks = ⊥
