-- When literals contradict each other.
use Rattle.std.specs.Prelude.{ℕ, ℤ, pos, ◌+ℤ◌, ◌<ℤ◌, ◌≡◌, ◌⊎◌, List, [], ◌∷◌, ◌++◌, Some, slice_get}
use Rattle.pv_linear.specs.declared.Literal.{Literal}
use Rattle.pv_linear.specs.declared.Literal.TheVariants.{AtMost, Same, Differ}
use Rattle.pv_linear.specs.declared.Symbol.{Symbol}

-- from z the differences at these places lead to x, each from its first symbol to its second, and their bounds add up to t
abbrev pub Walk : List Literal → Symbol → Symbol → ℤ → List ℕ → Type 0
Walk literals z x t [] = (z ≡ x) × (t ≡ pos 0)
Walk literals z x t (p ∷ ps) = (y : Symbol) × (c : ℤ) × (u : ℤ) × (slice_get literals p ≡ Some (AtMost z y c))
    × Walk literals y x u ps × (t ≡ (c +ℤ u))

-- they lead back to where they start, and add up to less than zero
abbrev pub IsNegativeCycle : List Literal → List ℕ → Type 0
IsNegativeCycle literals places = (x : Symbol) × (t : ℤ) × Walk literals x x t places × (t <ℤ pos 0)

-- the equations at these places, read either way, lead from x to y
abbrev pub IsJoined : List Literal → Symbol → Symbol → List ℕ → Type 0
IsJoined literals x y [] = x ≡ y
IsJoined literals x y (p ∷ ps) = (z : Symbol) ×
    ((slice_get literals p ≡ Some (Same x z)) ⊎ (slice_get literals p ≡ Some (Same z x))) × IsJoined literals z y ps

-- the last place has two symbols that differ, and the equations at the others join them
abbrev pub IsClash : List Literal → List ℕ → Type 0
IsClash literals places = (x : Symbol) × (y : Symbol) × (ps : List ℕ) × (d : ℕ) × (places ≡ ps ++ d ∷ [])
    × (slice_get literals d ≡ Some (Differ x y)) × IsJoined literals x y ps
