-- What the solver's answer says.
use Rattle.std.specs.Prelude.{ℕ, ◌+◌, ℤ, pos, ◌<ℤ◌, ◌≡◌, ◌⊎◌, List, [], ◌∷◌, Some, All, slice_get, slice_index_or}
use Rattle.pv_linear.specs.declared.Literal.{Literal}
use Rattle.pv_linear.specs.declared.Literal.TheVariants.{AtMost}
use Rattle.pv_linear.specs.declared.Symbol.{Symbol}
use Rattle.pv_linear.specs.Values.{Values, values_of, IsWithin}
use Rattle.pv_linear.specs.Literal.{Meets, bound_of}
use Rattle.pv_diff.specs.declared.Conflict.{Conflict}
use Rattle.pv_diff.specs.declared.Conflict.TheVariants.{Cycle, Clash}
use Rattle.pv_diff.specs.declared.Solved.{Solved}
use Rattle.pv_diff.specs.declared.Solved.TheVariants.{Yes, No}
use Rattle.pv_diff.specs.Conflict.{IsNegativeCycle, IsClash}

-- the sizes of the bounds, and two for each literal, all together
abbrev pub reach : List Literal → ℕ
reach [] = 0
reach (l ∷ ls) = bound_of l + 2 + reach ls

-- the places show a contradiction
abbrev pub IsConflict : List Literal → Conflict → Type 0
IsConflict literals (Cycle places) = IsNegativeCycle literals places
IsConflict literals (Clash places) = IsClash literals places

-- a yes meets every literal, and a no shows a contradiction
abbrev pub IsAnswer : List Literal → Solved → Type 0
IsAnswer literals (Yes numbers) = Meets (values_of numbers) literals
IsAnswer literals (No conflict) = IsConflict literals conflict

-- the numbers of a yes are not far from zero
abbrev pub IsNear : List Literal → Solved → Type 0
IsNear literals (Yes numbers) = All (IsWithin (reach literals)) numbers
IsNear literals (No conflict) = Unit {0}

-- a no says that nothing meets the literals
abbrev pub DeniesAll : List Literal → Solved → Type 0
DeniesAll literals (Yes numbers) = Unit {0}
DeniesAll literals (No conflict) = (v : Values) → Meets v literals → ⊥

-- a difference has the symbol
abbrev pub IsInDifference : List Literal → ℕ → Type 0
IsInDifference literals k = (p : ℕ) × (x : Symbol) × (y : Symbol) × (c : ℤ) × (slice_get literals p ≡ Some (AtMost x y c))
    × ((x.0 ≡ k) ⊎ (y.0 ≡ k))

-- in a yes only symbols of differences have numbers below zero
abbrev pub IsSigned : List Literal → Solved → Type 0
IsSigned literals (Yes numbers) = (k : ℕ) → slice_index_or numbers k (pos 0) <ℤ pos 0 → IsInDifference literals k
IsSigned literals (No conflict) = Unit {0}
