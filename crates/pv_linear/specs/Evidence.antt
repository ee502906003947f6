-- Evidence, and what a path of literals says of it.
use Rattle.std.specs.Prelude.{ℕ, suc, ◌<◌, ◌≤◌, ◌≡◌, ◌⊎◌, List, [], ◌∷◌, ◌++◌, length, slice_index, Bool, if◌then◌else◌}
use Rattle.pv_linear.specs.declared.Sort.{Sort}
use Rattle.pv_linear.specs.declared.Literal.{Literal}
use Rattle.pv_linear.specs.declared.asker.AskFault.{AskFault}
use Rattle.pv_linear.specs.declared.asker.AskFault.TheVariants.{Full, NoMemory}
use Rattle.pv_linear.specs.Values.{Values}
use Rattle.pv_linear.specs.Literal.{Meets, opposite}
use Rattle.pv_linear.specs.Sorting.{AreSortsApart}

-- a number for each symbol, and a number for each turn
pub record Evidence : Type 0 where
  pub values : Values
  pub turns : ℕ → ℕ

-- there are three turns
abbrev pub HasTurns : Evidence → Type 0
HasTurns e = (k : ℕ) → e.turns k < 3

-- the evidence that has these numbers and these turns, and then zeros
abbrev pub evidence_of : Values → List ℕ → Evidence
evidence_of values turns = record { values = values; turns = λ k. slice_index turns k }

-- numbers that meet the literals
pub record Solution (literals : List Literal) : Type 0 where
  pub values : Values
  pub meets : Meets values literals

-- there are such numbers
abbrev pub CanBeMet : List Literal → Type 0
CanBeMet literals = ∥ Solution literals ∥₁

-- the values meet the path, and the turns taken are the first of the turns
unfoldable pub Follows : List Literal → List ℕ → Evidence → Type 0
Follows path turns e = Meets e.values path × ((k : ℕ) → k < length turns → slice_index turns k ≡ e.turns k)

-- P is true of all evidence that follows the asker
abbrev pub Under : {S : Type 0} → (S → List Literal) → (S → List ℕ) → S → (Evidence → Type 0) → Type 0
Under path turns asker P = (e : Evidence) → Follows (path asker) (turns asker) e → P e

-- the literal as it was answered
abbrev pub answered : Literal → Bool → Literal
answered literal told = if told then literal else opposite literal

-- n of the literals are such that the opposite of each can be met together with all that stand before it
abbrev pub Undecided : List Literal → List Literal → ℕ → Type 0
Undecided before [] n = n ≡ 0
Undecided before (l ∷ ls) n = Undecided (before ++ l ∷ []) ls n ⊎
    ((m : ℕ) × (n ≡ suc m) × CanBeMet (before ++ opposite l ∷ []) × Undecided (before ++ l ∷ []) ls m)

-- the path can be met, and so many of its literals are such that a question may find no place on it
unfoldable pub IsLong : List Literal → Type 0
IsLong path = CanBeMet path × ∥ Undecided [] path 65536 ∥₁

-- the path can be met, and as many symbols were made as there are
unfoldable pub HasAllSymbols : List Literal → List Sort → Type 0
HasAllSymbols path sorts = CanBeMet path × (4294967294 ≤ length sorts)

-- the asker may answer Full
unfoldable pub MayBeFull : List Literal → List Sort → Type 0
MayBeFull path sorts = IsLong path ⊎ HasAllSymbols path sorts

-- P, where the fault is Full
abbrev pub OnFull : AskFault → Type 0 → Type 0
OnFull Full P = P
OnFull NoMemory P = Unit {0}

-- the literal may be asked on the path: where the path can be met, no symbol but 0 is both a number and a reference in the
-- path with the literal
unfoldable pub MayAsk : List Literal → Literal → Type 0
MayAsk path literal = CanBeMet path → AreSortsApart (path ++ literal ∷ [])
