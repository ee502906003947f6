-- When literals hold.
use Rattle.std.specs.Prelude.{ℕ, pos, ◌+ℤ◌, ◌-ℤ◌, ◌≤ℤ◌, ◌≡◌, ◌≢◌, List, [], ◌∷◌, Bool, true, false, IsTrue, unsigned_abs, max}
use Rattle.pv_linear.specs.declared.Literal.{Literal}
use Rattle.pv_linear.specs.declared.Literal.TheVariants.{AtMost, Same, Differ}
use Rattle.pv_linear.specs.declared.Shape.{Shape}
use Rattle.pv_linear.specs.declared.Shape.TheVariants.{Ground, Difference}
use Rattle.pv_linear.specs.Values.{Values, number_of, IsWithin}

-- the literal holds of these numbers: `AtMost x y c` says that x is at most y + c
abbrev pub Holds : Values → Literal → Type 0
Holds v (AtMost x y c) = number_of v x.0 ≤ℤ (number_of v y.0 +ℤ c)
Holds v (Same x y) = number_of v x.0 ≡ number_of v y.0
Holds v (Differ x y) = number_of v x.0 ≢ number_of v y.0

-- every literal holds
abbrev pub Meets : Values → List Literal → Type 0
Meets v [] = Unit {0}
Meets v (l ∷ ls) = Holds v l × Meets v ls

-- the literal that holds exactly where this one does not
abbrev pub opposite : Literal → Literal
opposite (AtMost x y c) = AtMost y x (pos 0 -ℤ c -ℤ pos 1)
opposite (Same x y) = Differ x y
opposite (Differ x y) = Same x y

-- the bound of the literal is at most n from zero
abbrev pub IsBounded : ℕ → Literal → Type 0
IsBounded n (AtMost x y c) = IsWithin n c
IsBounded n (Same x y) = Unit {0}
IsBounded n (Differ x y) = Unit {0}

-- what a shape says
abbrev pub ShapeHolds : Values → Shape → Type 0
ShapeHolds v (Ground b) = IsTrue b
ShapeHolds v (Difference l) = Holds v l

abbrev pub IsShapeBounded : ℕ → Shape → Type 0
IsShapeBounded n (Ground b) = Unit {0}
IsShapeBounded n (Difference l) = IsBounded n l

-- how far the bound of the literal is from zero
abbrev pub bound_of : Literal → ℕ
bound_of (AtMost x y c) = unsigned_abs c
bound_of (Same x y) = 0
bound_of (Differ x y) = 0

-- the greatest of them
abbrev pub bound_of_all : List Literal → ℕ
bound_of_all [] = 0
bound_of_all (l ∷ ls) = max (bound_of l) (bound_of_all ls)

-- whether the shape is settled without any symbol
abbrev pub is_ground : Shape → Bool
is_ground (Ground b) = true
is_ground (Difference l) = false
