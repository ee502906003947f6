-- Differences of slots, and the trails that they make.
use Rattle.std.specs.Prelude.{ℕ, ℤ, pos, ◌+◌, ◌<◌, ◌+ℤ◌, ◌<ℤ◌, ◌≡◌, List, [], ◌∷◌, Some, slice_get, unsigned_abs, max}
use Rattle.pv_diff.specs.declared.table.Edge.{Edge}

-- the number of slot z is at most that of slot y plus c
abbrev pub edge : ℕ → ℕ → ℤ → Edge
edge z y c = record { to = z; from = y; bound = c }

-- all slots are below n
abbrev pub AllBelow : ℕ → List Edge → Type 0
AllBelow n [] = Unit {0}
AllBelow n (e ∷ es) = (e.to < n) × (e.from < n) × AllBelow n es

-- the greatest distance of a bound from zero
abbrev pub widest : List Edge → ℕ
widest [] = 0
widest (e ∷ es) = max (unsigned_abs e.bound) (widest es)

-- the sum of these distances
abbrev pub breadth : List Edge → ℕ
breadth [] = 0
breadth (e ∷ es) = unsigned_abs e.bound + breadth es

-- from z the edges at these places lead to x, each from its first slot to its second, and their bounds add up to t
abbrev pub Trail : List Edge → ℕ → ℕ → ℤ → List ℕ → Type 0
Trail edges z x t [] = (z ≡ x) × (t ≡ pos 0)
Trail edges z x t (p ∷ ps) = (y : ℕ) × (c : ℤ) × (u : ℤ) × (slice_get edges p ≡ Some (edge z y c)) × Trail edges y x u ps
    × (t ≡ (c +ℤ u))

-- they lead back to where they start, and add up to less than zero
abbrev pub IsNegativeRound : List Edge → List ℕ → Type 0
IsNegativeRound edges places = (x : ℕ) × (t : ℤ) × Trail edges x x t places × (t <ℤ pos 0)
