-- What a call says that changes what a run holds: what comes next goes on from where the call left the run, or the run ends.
use Rattle.std.specs.Prelude.{◌≡◌, ℕ, ℤ, Bool, if◌then◌else◌, List}
use Rattle.std.specs.HashMap.{HashMap}
use Rattle.pv_ast.specs.declared.PvType.{PvType}
use Rattle.pv_picks.specs.Judge.Permissions.{give, give_range, has_room}
use Rattle.pv_picks.specs.Judge.States as states
use Rattle.pv_picks.specs.Judge.States.{State, with_range}
use Rattle.pv_picks.specs.Judge.Settings.{Next, Setting, unless_null, look_at_length}
use Rattle.pv_picks.specs.Judge.Runs.{Blocked, Failed}
use Rattle.pv_cells.specs.declared.halt.Halt.{Halt}
use Rattle.pv_cells.specs.declared.halt.Halt.TheVariants as halt
use Rattle.pv_cells.specs.declared.key.Resource.{Resource}
use Rattle.pv_cells.specs.declared.prepared.Prepared.{Prepared}
use Rattle.pv_cells.specs.declared.store.Holding.{Holding}
use Rattle.pv_cells.specs.declared.store.Learned.{Learned}
use Rattle.pv_cells.specs.Limits.{Limited, Ending, Ends, Overflows, TooLong, limiting}
use Rattle.pv_cells.specs.Prepared.{maps_of, table_of, left}
use Rattle.pv_cells.specs.Stores.{held_of, with_learned}

-- a part of a run without a value, by what comes next
abbrev pub Move : Type 0
Move = Next Limited → Next Limited

-- the judge's setting on prepared evidence
abbrev pub setting_of : Prepared → Setting Limited
setting_of given = limiting (maps_of given) (table_of given)

-- a state that holds this and has learned that
abbrev pub standing : {S : Type 0} → State → HashMap Resource Holding S → Learned → State
standing s held l = with_learned (record s { held = held_of held }) l

unfoldable pub Moves : {S : Type 0} → Prepared → Move → HashMap Resource Holding S → Learned → HashMap Resource Holding S
    → Learned → Type 0
Moves given move held from now to = (s : State) (next : Next Limited)
    → move next (standing s held from) (left given from) ≡ next (standing s now to) (left given to)

-- how a halt ends the run; what is missing to a formula was made a failure before
unfoldable pub EndsAt : Halt → (Ending → Type 0) → Type 0
EndsAt (halt.Missing span) P = ⊥
EndsAt halt.Blocked P = P (Ends Blocked)
EndsAt (halt.Failed check span) P = P (Ends (Failed check span))
EndsAt (halt.Overflow span) P = P (Overflows span)
EndsAt (halt.RangeTooLong n) P = P (TooLong n)
EndsAt halt.NoMemory P = Unit {0}

unfoldable pub Stops : {S : Type 0} → Prepared → Move → HashMap Resource Holding S → Learned → Halt → Type 0
Stops given move held from halt = EndsAt halt
    (λ end. (s : State) (next : Next Limited) → move next (standing s held from) (left given from) ≡ end)

-- an amount is given up, where so much is there; where it isn't, all stays
unfoldable pub Gives : {S : Type 0} → states.Resource → ℕ → HashMap Resource Holding S → Bool → HashMap Resource Holding S
    → Type 0
Gives r amount held enough now = (given : Prepared) (l : Learned) (s : State) (short : Limited) (next : Next Limited)
    → give (setting_of given) r amount short next (standing s held l) (left given l)
    ≡ (if enough then next (standing s now l) else short) (left given l)

-- the same of each element of a range
unfoldable pub GivesRange : {S : Type 0} → PvType → ℕ → ℤ → ℤ → ℕ → HashMap Resource Holding S → Bool
    → HashMap Resource Holding S → Type 0
GivesRange type array low high amount held enough now = (given : Prepared) (l : Learned) (s : State) (ends : List ℤ)
    (short : Limited) (next : Next Limited)
    → give_range (setting_of given) type array low high ends amount short next (standing s held l) (left given l)
    ≡ (if enough then next (standing s now l) else short) (left given l)

-- a range of elements inside its array is gained: the values are one pick
abbrev pub filling : Prepared → PvType → ℕ → ℤ → ℤ → ℕ → Move
filling given type array low high amount next state =
    if has_room state type array low high amount then (setting_of given).steps state.steps type array
    (next (with_range state type array low high amount)) else (setting_of given).blocked

-- inside an array that isn't null, where its length passes a test; elsewhere the run is blocked
abbrev pub inside_array : Prepared → PvType → ℕ → (ℤ → Bool) → Move → Move
inside_array given type array test inner next state =
    unless_null (setting_of given) array (setting_of given).blocked
    (look_at_length (setting_of given) type array
    (λ n later. if test n then inner next later else (setting_of given).blocked) state)
