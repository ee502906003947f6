-- Where symbols stand: as numbers, in differences, and as references, in equations.
use Rattle.std.specs.Prelude.{ℕ, suc, ◌≡◌, ◌⊎◌, List, [], ◌∷◌}
use Rattle.pv_linear.specs.declared.Literal.{Literal}
use Rattle.pv_linear.specs.declared.Literal.TheVariants.{AtMost, Same, Differ}

-- the symbol with this number stands in the literal as a number
abbrev pub IsNumberIn : Literal → ℕ → Type 0
IsNumberIn (AtMost x y c) k = (x.0 ≡ k) ⊎ (y.0 ≡ k)
IsNumberIn (Same x y) k = ⊥
IsNumberIn (Differ x y) k = ⊥

-- the symbol with this number stands in the literal as a reference
abbrev pub IsReferenceIn : Literal → ℕ → Type 0
IsReferenceIn (AtMost x y c) k = ⊥
IsReferenceIn (Same x y) k = (x.0 ≡ k) ⊎ (y.0 ≡ k)
IsReferenceIn (Differ x y) k = (x.0 ≡ k) ⊎ (y.0 ≡ k)

-- it does so in some of the literals
abbrev pub IsNumberAmong : List Literal → ℕ → Type 0
IsNumberAmong [] k = ⊥
IsNumberAmong (l ∷ ls) k = IsNumberIn l k ⊎ IsNumberAmong ls k

abbrev pub IsReferenceAmong : List Literal → ℕ → Type 0
IsReferenceAmong [] k = ⊥
IsReferenceAmong (l ∷ ls) k = IsReferenceIn l k ⊎ IsReferenceAmong ls k

-- no symbol but 0 is both a number and a reference
abbrev pub AreSortsApart : List Literal → Type 0
AreSortsApart ls = (k : ℕ) → IsNumberAmong ls (suc k) → IsReferenceAmong ls (suc k) → ⊥
