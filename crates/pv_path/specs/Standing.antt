-- What stands in the parts of a search.
use Rattle.std.specs.Prelude.{ℕ, ◌<◌, ◌≡◌, ◌≢◌, ◌⊎◌, List, [], ◌∷◌, ◌++◌, Some, slice_get, slice_index, take, max}
use Rattle.pv_linear.specs.declared.Literal.{Literal}
use Rattle.pv_linear.specs.declared.Literal.TheVariants.{AtMost, Same, Differ}
use Rattle.pv_linear.specs.Values.{Values}
use Rattle.pv_linear.specs.Literal.{Holds, Meets, opposite, bound_of}
use Rattle.pv_linear.specs.Evidence.{Evidence, HasTurns, evidence_of, CanBeMet, answered}
use Rattle.pv_linear.specs.Decisions.{Decision, fact, turn_is, Agrees}
use Rattle.pv_path.specs.declared.branch.Branch.{Branch}
use Rattle.pv_path.specs.declared.literals.Settled.{Settled}
use Rattle.pv_path.specs.declared.literals.Settled.TheVariants.{Told, Undecided}
use Rattle.pv_path.specs.Branches.{parts_of, Among}

-- numbers with a list of turns below 3 that stand in a list of decisions
pub record Standing (ds : List Decision) : Type 0 where
  pub values : Values
  pub turns : List ℕ
  pub below : (k : ℕ) → slice_index turns k < 3
  pub agrees : Agrees (evidence_of values turns) ds

-- something stands there
abbrev pub CanStand : List Decision → Type 0
CanStand ds = ∥ Standing ds ∥₁

-- the evidence stands in one of the parts
unfoldable pub StandsAmong : Evidence → List (List Decision) → Type 0
StandsAmong e [] = ⊥
StandsAmong e (ds ∷ parts) = Agrees e ds ⊎ StandsAmong e parts

-- it has turns below 3 and stands in some part
unfoldable pub Stands : Evidence → List Branch → Type 0
Stands e bs = HasTurns e × StandsAmong e (parts_of bs)

-- the second list of decisions is the first up to one, and there the other answer, or a later turn
pub data IsSideOf (ds part : List Decision) : Type 0 where
  opposite_of : (xs ys : List Decision) (l : Literal) → ds ≡ xs ++ fact l ∷ ys → part ≡ xs ++ fact (opposite l) ∷ []
      → IsSideOf ds part
  later_than : (xs ys : List Decision) (k m n : ℕ) → ds ≡ xs ++ turn_is k m ∷ ys → m < n → n < 3 → part ≡ xs ++ turn_is k n ∷ []
      → IsSideOf ds part

-- nothing stands in both
abbrev pub AreApart : List Decision → List Decision → Type 0
AreApart ds es = (e : Evidence) → Agrees e ds → Agrees e es → ⊥

-- nothing stands in two of them
abbrev pub AllApart : List (List Decision) → Type 0
AllApart [] = Unit {0}
AllApart (ds ∷ parts) = ((es : List Decision) → Among parts es → AreApart ds es) × AllApart parts

-- the opposite of each literal can be met together with those before it
abbrev pub AreUndecided : List Literal → Type 0
AreUndecided ls = (k : ℕ) (l : Literal) → slice_get ls k ≡ Some l → CanBeMet (take k ls ++ opposite l ∷ [])

-- both the literal and its opposite can be met together with these
abbrev pub IsOpen : List Literal → Literal → Type 0
IsOpen ls l = CanBeMet (ls ++ l ∷ []) × CanBeMet (ls ++ opposite l ∷ [])

-- what is known of the literal is so on the path
abbrev pub IsSettled : List Literal → Literal → Settled → Type 0
IsSettled path literal (Told told) = (v : Values) → Meets v path → Holds v (answered literal told)
IsSettled path literal Undecided = IsOpen path literal

-- the second list is what is left of the first without literals that follow from those before them; the opposite of each
-- that is left can be met together with those before it
pub data Narrowed : List Literal → List Literal → Type 0 where
  nothing : Narrowed [] []
  decided : (path ls : List Literal) (l : Literal) → Narrowed path ls → CanBeMet (ls ++ opposite l ∷ [])
      → Narrowed (path ++ l ∷ []) (ls ++ l ∷ [])
  entailed : (path ls : List Literal) (l : Literal) → Narrowed path ls → ((v : Values) → Meets v ls → Holds v l)
      → Narrowed (path ++ l ∷ []) ls

-- how far the bounds of the literals and of their opposites are from zero
abbrev pub span_of : List Literal → ℕ
span_of [] = 0
span_of (l ∷ ls) = max (max (bound_of l) (bound_of (opposite l))) (span_of ls)

-- the highest symbol of the literals
abbrev pub highest_in : Literal → ℕ
highest_in (AtMost x y c) = max x.0 y.0
highest_in (Same x y) = max x.0 y.0
highest_in (Differ x y) = max x.0 y.0

-- the symbol with this number stands in the literal
abbrev pub HasSymbol : Literal → ℕ → Type 0
HasSymbol (AtMost x y c) k = (x.0 ≡ k) ⊎ (y.0 ≡ k)
HasSymbol (Same x y) k = (x.0 ≡ k) ⊎ (y.0 ≡ k)
HasSymbol (Differ x y) k = (x.0 ≡ k) ⊎ (y.0 ≡ k)

-- it stands in none of the literals
abbrev pub AreWithout : List Literal → ℕ → Type 0
AreWithout [] k = Unit {0}
AreWithout (l ∷ ls) k = (HasSymbol l k → ⊥) × AreWithout ls k

-- it is not 0 either
abbrev pub IsFree : List Literal → ℕ → Type 0
IsFree ls k = (k ≢ 0) × AreWithout ls k

-- the literal has two symbols, and one of them is free of the others
abbrev pub HasFreeSymbol : List Literal → Literal → Type 0
HasFreeSymbol ls (AtMost x y c) = (x ≡ y → ⊥) × (IsFree ls x.0 ⊎ IsFree ls y.0)
HasFreeSymbol ls (Same x y) = (x ≡ y → ⊥) × (IsFree ls x.0 ⊎ IsFree ls y.0)
HasFreeSymbol ls (Differ x y) = (x ≡ y → ⊥) × (IsFree ls x.0 ⊎ IsFree ls y.0)

-- the literal has two symbols, and one of them is above this number
abbrev pub HasNewSymbol : Literal → ℕ → Type 0
HasNewSymbol (AtMost x y c) n = (x ≡ y → ⊥) × (n < max x.0 y.0)
HasNewSymbol (Same x y) n = (x ≡ y → ⊥) × (n < max x.0 y.0)
HasNewSymbol (Differ x y) n = (x ≡ y → ⊥) × (n < max x.0 y.0)

abbrev pub highest_among : List Literal → ℕ
highest_among [] = 0
highest_among (l ∷ ls) = max (highest_in l) (highest_among ls)
