-- Slots that stand for symbols: slot k stands for the symbol at k of a list.
use Rattle.std.specs.Prelude.{ℕ, ℤ, ◌≡◌, ◌⊎◌, List, [], ◌∷◌, Some, slice_get, Contains}
use Rattle.pv_linear.specs.declared.Literal.{Literal}
use Rattle.pv_linear.specs.declared.Literal.TheVariants.{AtMost, Same, Differ}
use Rattle.pv_linear.specs.declared.Symbol.{Symbol}
use Rattle.pv_linear.specs.Sorting.{IsReferenceAmong}
use Rattle.pv_diff.specs.Answer.{IsInDifference}
use Rattle.pv_diff.specs.declared.table.Edge.{Edge}

-- both symbols of each difference are in the list
abbrev pub AreNamed : List ℕ → List Literal → Type 0
AreNamed symbols literals = (p : ℕ) (x y : Symbol) (c : ℤ) → slice_get literals p ≡ Some (AtMost x y c) → Contains symbols x.0
    × Contains symbols y.0

-- the edge is the difference, between the slots of its symbols
abbrev pub IsEdge : List ℕ → Literal → Edge → Type 0
IsEdge symbols (AtMost x y c) e = (slice_get symbols e.to ≡ Some x.0) × (slice_get symbols e.from ≡ Some y.0) × (e.bound ≡ c)
IsEdge symbols (Same x y) e = ⊥
IsEdge symbols (Differ x y) e = ⊥

-- so one by one
abbrev pub AreEdges : List ℕ → List Literal → List Edge → Type 0
AreEdges symbols [] [] = Unit {0}
AreEdges symbols (l ∷ ls) (e ∷ es) = IsEdge symbols l e × AreEdges symbols ls es
AreEdges symbols [] (e ∷ es) = ⊥
AreEdges symbols (l ∷ ls) [] = ⊥

-- only the symbols of differences, and 0, are in the list
abbrev pub AreOnlyNamed : List ℕ → List Literal → Type 0
AreOnlyNamed symbols literals = (k : ℕ) → Contains symbols k → (k ≡ 0) ⊎ IsInDifference literals k

-- the symbols of a literal that is no difference
abbrev pub references_in : Literal → List ℕ
references_in (AtMost x y c) = []
references_in (Same x y) = x.0 ∷ y.0 ∷ []
references_in (Differ x y) = x.0 ∷ y.0 ∷ []

-- the symbols of each such literal are in the list
abbrev pub AreReferencesNamed : List ℕ → List Literal → Type 0
AreReferencesNamed symbols literals = (p k : ℕ) (l : Literal) → slice_get literals p ≡ Some l → Contains (references_in l) k
    → Contains symbols k

-- only these symbols, and 0, are in the list
abbrev pub AreOnlyReferences : List ℕ → List Literal → Type 0
AreOnlyReferences symbols literals = (k : ℕ) → Contains symbols k → (k ≡ 0) ⊎ IsReferenceAmong literals k
