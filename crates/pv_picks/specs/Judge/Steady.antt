-- Where the position stands in a condition that is repeated: not in a term, and in a steady condition only in indexes with one
-- shift.
use Rattle.std.specs.Prelude.{◌≡◌, ◌⊎◌, ℤ, Bool, false, ◌||◌, Some, List, [], ◌∷◌}
use Rattle.pv_base.specs.declared.Name.{Name}
use Rattle.pv_base.specs.Names.{same_name}
use Rattle.pv_picks.specs.Plain.Core.{Expression, Constant, This, Result, Variable, Field, Element, Length, Not, Compute, Compare, Equal, And, Or, Implies, Old}
use Rattle.pv_picks.specs.Judge.Repetitions.{Look, AtElements, AtElement, AtLength, AtTerm, shift_in}

-- an expression names this variable
abbrev pub mentions : Name → Expression → Bool
mentions name (Constant v) = false
mentions name This = false
mentions name Result = false
mentions name (Variable other) = same_name name other
mentions name (Field e class field span) = mentions name e
mentions name (Element type e i span) = mentions name e || mentions name i
mentions name (Length type e span) = mentions name e
mentions name (Not e) = mentions name e
mentions name (Compute manner o x y span) = mentions name x || mentions name y
mentions name (Compare c x y) = mentions name x || mentions name y
mentions name (Equal same x y) = mentions name x || mentions name y
mentions name (And x y) = mentions name x || mentions name y
mentions name (Or x y) = mentions name x || mentions name y
mentions name (Implies x y) = mentions name x || mentions name y
mentions name (Old e) = mentions name e

-- a term for the position of this name
abbrev pub IsTerm : Name → Expression → Type 0
IsTerm name e = mentions name e ≡ false

-- what a run looks at before it repeats a condition
abbrev pub IsTermLook : Name → Look → Type 0
IsTermLook name (AtElements type array shift) = IsTerm name array
IsTermLook name (AtElement was type array index) = IsTerm name array × IsTerm name index
IsTermLook name (AtLength type array) = IsTerm name array
IsTermLook name (AtTerm e) = IsTerm name e

-- the position stands only in indexes, of arrays without it, that are so far from it
abbrev pub Steady : Name → ℤ → Expression → Type 0
Steady name s (Constant v) = Unit {0}
Steady name s This = Unit {0}
Steady name s Result = Unit {0}
Steady name s (Variable other) = same_name name other ≡ false
Steady name s (Field e class field span) = Steady name s e
Steady name s (Element type e i span) = IsTerm name e × (IsTerm name i ⊎ (shift_in name i ≡ Some s))
Steady name s (Length type e span) = Steady name s e
Steady name s (Not e) = Steady name s e
Steady name s (Compute manner o x y span) = Steady name s x × Steady name s y
Steady name s (Compare c x y) = Steady name s x × Steady name s y
Steady name s (Equal same x y) = Steady name s x × Steady name s y
Steady name s (And x y) = Steady name s x × Steady name s y
Steady name s (Or x y) = Steady name s x × Steady name s y
Steady name s (Implies x y) = Steady name s x × Steady name s y
Steady name s (Old e) = Steady name s e

-- nothing is read at an index with the position
abbrev pub NoElements : List Look → Type 0
NoElements [] = Unit {0}
NoElements (AtElements type array shift ∷ looks) = ⊥
NoElements (AtElement was type array index ∷ looks) = NoElements looks
NoElements (AtLength type array ∷ looks) = NoElements looks
NoElements (AtTerm e ∷ looks) = NoElements looks
