-- When one run of the judge follows another: whatever end the one comes to on some picks, the other comes to on some picks, too.
-- They may differ in how many picks they take, and in which lengths of arrays they know: a length is picked where it is first
-- looked at.
use Rattle.std.specs.Prelude.{◌≡◌, ◌⊎◌, ℕ, ℤ, pos, int_le, true, Option, Some, List}
use Rattle.pv_base.specs.declared.Span.{Span}
use Rattle.pv_ast.specs.declared.PvType.{PvType}
use Rattle.pv_picks.specs.declared.check.Check.{Check}
use Rattle.pv_picks.specs.declared.evidence.Pick.{Pick}
use Rattle.pv_picks.specs.Judge.States.{State}
use Rattle.pv_picks.specs.Judge.Settings.{Next}
use Rattle.pv_picks.specs.Judge.Runs.{End, Blocked, Failed, Judged}

-- a length for each array, by the type of its elements
abbrev pub Lengths : Type 0
Lengths = PvType → ℕ → ℤ

-- as a state knows them
abbrev pub KnownLengths : Type 0
KnownLengths = PvType → ℕ → Option ℤ

abbrev pub IsLength : ℤ → Type 0
IsLength n = int_le (pos 0) n ≡ true

abbrev pub AreLengths : Lengths → Type 0
AreLengths lengths = (type : PvType) (array : ℕ) → IsLength (lengths type array)

-- those that are known aren't negative
abbrev pub KnowsLengths : KnownLengths → Type 0
KnowsLengths known = (type : PvType) (array : ℕ) (n : ℤ) → known type array ≡ Some n → IsLength n

-- those that are known are among these
abbrev pub AreAmong : KnownLengths → Lengths → Type 0
AreAmong known lengths = (type : PvType) (array : ℕ) (n : ℤ) → known type array ≡ Some n → lengths type array ≡ n

-- the same state, but for the lengths that it knows
abbrev pub with_lengths : State → KnownLengths → State
with_lengths s known = record s { lengths = known }

-- an end of the other run that counts as the end of the one
abbrev pub Counting : Type 1
Counting = End → End → Type 0

-- where these lengths are known the end is reached, whatever is known of some lengths
pub record IsReached (Counts : Counting) (learned : KnownLengths) (end : End) (other : KnownLengths → Judged) : Type 0 where
  pub lengths : Lengths
  pub are_lengths : AreLengths lengths
  pub among : AreAmong learned lengths
  pub reaches : (known : KnownLengths) → AreAmong known lengths → (picks : List Pick) × Counts end (other known picks)

-- each end of the one run but Blocked is reached by the other
pub record Follows (Counts : Counting) (one other : Next Judged) : Type 0 where
  pub from : (s : State) (picks : List Pick) → KnowsLengths s.lengths
      → (one s picks ≡ Blocked) ⊎ IsReached Counts s.lengths (one s picks) (λ known. other (with_lengths s known))

-- the same end
abbrev pub AsItEnds : Counting
AsItEnds end other = end ≡ other

-- the same end, or a failure
abbrev pub OrFails : Counting
OrFails end other = (end ≡ other) ⊎ ((check : Check) × (span : Span) × (other ≡ Failed check span))
