-- The parts of what is to be walked: the path, and the open sides of its decisions.
use Rattle.std.specs.Prelude.{ℕ, List, [], ◌∷◌, ◌⊎◌, max, ◌+◌}
use Rattle.pv_linear.specs.declared.Literal.{Literal}
use Rattle.pv_linear.specs.declared.Literal.TheVariants.{AtMost}
use Rattle.pv_linear.specs.Values.{Values}
use Rattle.pv_linear.specs.Literal.{Holds, opposite, bound_of}
use Rattle.small_paths.specs.declared.Difference.{Difference}
use Rattle.small_paths.specs.declared.Decision.{Decision}
use Rattle.small_paths.specs.declared.Decision.TheVariants.{Open, Closed}

-- what a difference says
abbrev pub literal_of : Difference → Literal
literal_of d = AtMost d.x d.y d.bound

-- the values agree with the decision
abbrev pub On : Values → Decision → Type 0
On v (Open d) = Holds v (literal_of d)
On v (Closed d) = Holds v (literal_of d)

-- the values lie on the open side of the decision
abbrev pub Off : Values → Decision → Type 0
Off v (Open d) = Holds v (opposite (literal_of d))
Off v (Closed d) = ⊥

-- they agree with all of the decisions
unfoldable pub Agrees : Values → List Decision → Type 0
Agrees v [] = Unit {0}
Agrees v (d ∷ ds) = On v d × Agrees v ds

-- they lie on an open side
unfoldable pub Waits : Values → List Decision → Type 0
Waits v [] = ⊥
Waits v (d ∷ ds) = (On v d × Waits v ds) ⊎ Off v d

-- they lie in some part
unfoldable pub Stands : Values → List Decision → Type 0
Stands v ds = Agrees v ds ⊎ Waits v ds

abbrev pub literal_in : Decision → Literal
literal_in (Open d) = literal_of d
literal_in (Closed d) = literal_of d

-- the literals of the decisions
abbrev pub literals_of : List Decision → List Literal
literals_of [] = []
literals_of (d ∷ ds) = literal_in d ∷ literals_of ds

-- how many sides are open
abbrev pub open_side : Decision → ℕ
open_side (Open d) = 1
open_side (Closed d) = 0

abbrev pub open_sides : List Decision → ℕ
open_sides [] = 0
open_sides (d ∷ ds) = open_side d + open_sides ds

-- how far the bounds of a decision and of its open side are from zero
abbrev pub decision_bound : Decision → ℕ
decision_bound (Open d) = max (bound_of (literal_of d)) (bound_of (opposite (literal_of d)))
decision_bound (Closed d) = bound_of (literal_of d)

abbrev pub decisions_bound : List Decision → ℕ
decisions_bound [] = 0
decisions_bound (d ∷ ds) = max (decision_bound d) (decisions_bound ds)
