-- The differences among literals.
use Rattle.std.specs.Prelude.{ℕ, ◌≡◌, List, [], ◌∷◌, Some, length, slice_get, slice_index_or}
use Rattle.pv_linear.specs.declared.Literal.{Literal}
use Rattle.pv_linear.specs.declared.Literal.TheVariants.{AtMost, Same, Differ}

-- the literal is a difference
abbrev pub IsAtMost : Literal → Type 0
IsAtMost (AtMost x y c) = Unit {0}
IsAtMost (Same x y) = ⊥
IsAtMost (Differ x y) = ⊥

-- every literal is a difference
abbrev pub AllAtMost : List Literal → Type 0
AllAtMost [] = Unit {0}
AllAtMost (l ∷ ls) = IsAtMost l × AllAtMost ls

-- the differences among the literals, in their order
abbrev pub differences_in : List Literal → List Literal
differences_in [] = []
differences_in (AtMost x y c ∷ ls) = AtMost x y c ∷ differences_in ls
differences_in (Same x y ∷ ls) = differences_in ls
differences_in (Differ x y ∷ ls) = differences_in ls

-- each literal of a part stands at its place in the whole list
abbrev pub AreFrom : List Literal → List Literal → List ℕ → Type 0
AreFrom literals part places = (k : ℕ) (l : Literal) → slice_get part k ≡ Some l → slice_get literals (slice_index_or places k 0)
    ≡ Some l

-- the part has the differences among the literals, each with its place in the whole list
pub record IsPart (whole literals part : List Literal) (places : List ℕ) : Type 0 where
  pub differences : part ≡ differences_in literals
  pub size : length places ≡ length part
  pub from : AreFrom whole part places
