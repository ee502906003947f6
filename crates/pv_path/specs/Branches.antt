-- The decisions of a path, and what is open of them.
use Rattle.std.specs.Prelude.{ℕ, suc, List, [], ◌∷◌, ◌++◌, length, drop, slice_get, Option, Some, None, ◌⊎◌, ◌≡◌}
use Rattle.pv_linear.specs.declared.Literal.{Literal}
use Rattle.pv_linear.specs.Literal.{opposite}
use Rattle.pv_linear.specs.Decisions.{Decision, fact, turn_is, turns_in}
use Rattle.pv_path.specs.declared.branch.Turn.{Turn}
use Rattle.pv_path.specs.declared.branch.Turn.TheVariants.{First, Second, Third}
use Rattle.pv_path.specs.declared.branch.Branch.{Branch}
use Rattle.pv_path.specs.declared.branch.Branch.TheVariants.{Open, Closed, Turned}

-- the number of a turn
abbrev pub turn_number : Turn → ℕ
turn_number First = 0
turn_number Second = 1
turn_number Third = 2

-- the decisions with the turn that has this number as the next one
abbrev pub with_turn : List Decision → ℕ → List Decision
with_turn ds n = ds ++ turn_is (length (turns_in ds)) n ∷ []

-- the decision of a branch that stands behind others
abbrev pub decision_behind : List Decision → Branch → Decision
decision_behind ds (Open l) = fact l
decision_behind ds (Closed l) = fact l
decision_behind ds (Turned t) = turn_is (length (turns_in ds)) (turn_number t)

-- the decisions of branches that stand behind others, with those
abbrev pub decisions_behind : List Decision → List Branch → List Decision
decisions_behind ds [] = ds
decisions_behind ds (b ∷ bs) = decisions_behind (ds ++ decision_behind ds b ∷ []) bs

-- the decisions of a path
abbrev pub decisions_of : List Branch → List Decision
decisions_of bs = decisions_behind [] bs

-- the open sides of a branch that stands behind decisions: the other answer, or the turns with greater numbers; the one that
-- comes next stands last
abbrev pub sides_at : List Decision → Branch → List (List Decision)
sides_at ds (Open l) = (ds ++ fact (opposite l) ∷ []) ∷ []
sides_at ds (Closed l) = []
sides_at ds (Turned First) = with_turn ds 2 ∷ with_turn ds 1 ∷ []
sides_at ds (Turned Second) = with_turn ds 2 ∷ []
sides_at ds (Turned Third) = []

abbrev pub sides_behind : List Decision → List Branch → List (List Decision)
sides_behind ds [] = []
sides_behind ds (b ∷ bs) = sides_at ds b ++ sides_behind (ds ++ decision_behind ds b ∷ []) bs

-- the open sides of a path
abbrev pub sides_of : List Branch → List (List Decision)
sides_of bs = sides_behind [] bs

-- the parts: the path, and its open sides
abbrev pub parts_of : List Branch → List (List Decision)
parts_of bs = decisions_of bs ∷ sides_of bs

-- the branch on its next side, where it has an open one
abbrev pub turned_over : Branch → Option Branch
turned_over (Open l) = Some (Closed (opposite l))
turned_over (Closed l) = None
turned_over (Turned First) = Some (Turned Second)
turned_over (Turned Second) = Some (Turned Third)
turned_over (Turned Third) = None

-- no branch has an open side
abbrev pub AllClosed : List Branch → Type 0
AllClosed [] = Unit {0}
AllClosed (b ∷ bs) = (turned_over b ≡ None) × AllClosed bs

-- the last branch that has an open side is on its next side, those before it stay, and those after it are gone
pub record IsTurnedOver (old new : List Branch) : Type 0 where
  pub kept : List Branch
  pub last : Branch
  pub other : Branch
  pub gone : List Branch
  pub were : old ≡ kept ++ last ∷ gone
  pub closed : AllClosed gone
  pub over : turned_over last ≡ Some other
  pub are : new ≡ kept ++ other ∷ []

-- the branch at this place is the last with an open side, and this is it on its next side
pub record IsNextSide (bs : List Branch) (place : ℕ) (other : Branch) : Type 0 where
  pub last : Branch
  pub there : slice_get bs place ≡ Some last
  pub over : turned_over last ≡ Some other
  pub closed : AllClosed (drop (suc place) bs)

-- the literals of the branches
abbrev pub branch_literals : List Branch → List Literal
branch_literals [] = []
branch_literals (Open l ∷ bs) = l ∷ branch_literals bs
branch_literals (Closed l ∷ bs) = l ∷ branch_literals bs
branch_literals (Turned t ∷ bs) = branch_literals bs

-- the turns of the branches
abbrev pub branch_turns : List Branch → List ℕ
branch_turns [] = []
branch_turns (Open l ∷ bs) = branch_turns bs
branch_turns (Closed l ∷ bs) = branch_turns bs
branch_turns (Turned t ∷ bs) = turn_number t ∷ branch_turns bs

-- the list has the member
abbrev pub Among : {A : Type 0} → List A → A → Type 0
Among [] x = ⊥
Among (y ∷ ys) x = (y ≡ x) ⊎ Among ys x
