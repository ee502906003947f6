-- What a search over the paths of a unit knows of the sorts of the values that the unit's run takes: of evidence, `takes` tells
-- them
-- in their order, and where the run ends at a negative reference, it is the last of them.
use Rattle.std.specs.Prelude.{ℕ, ◌≡◌, ◌⊎◌, ◌≤ℤ◌, pos, List, [], ◌∷◌, ◌++◌, Some, slice_get}
use Rattle.pv_linear.specs.declared.Sort.{Sort}
use Rattle.pv_linear.specs.declared.Sort.TheVariants.{Reference}
use Rattle.pv_linear.specs.declared.Literal.{Literal}
use Rattle.pv_linear.specs.Values.{Values}
use Rattle.pv_linear.specs.Literal.{Meets}
use Rattle.pv_linear.specs.Sorting.{IsNumberAmong, IsReferenceAmong, AreSortsApart}
use Rattle.pv_linear.specs.Sorts.{IsOfSorts, AreOfSorts}
use Rattle.pv_linear.specs.Evidence.{Evidence, HasTurns, CanBeMet, Follows}
use Rattle.pv_linear.specs.Decisions.{Decision, fact, turn_is, Agrees, IsFront, AreNumbered, AllBelow, literals_in, turns_in}

-- no reference among the values is negative
abbrev pub AreUp : List Sort → Values → Type 0
AreUp taken v = (k : ℕ) → slice_get taken k ≡ Some Reference → pos 0 ≤ℤ v k

-- evidence with turns below 3 on which the run takes no negative reference
pub record Fits (takes : Evidence → List Sort) (e : Evidence) : Type 0 where
  pub below : HasTurns e
  pub up : AreUp (takes e) e.values

-- such evidence that agrees with the decisions
pub record Member (has : Evidence → Type 0) (ds : List Decision) : Type 0 where
  pub evidence : Evidence
  pub has_it : has evidence
  pub agrees : Agrees evidence ds

-- there is some
abbrev pub HasMember : (Evidence → Type 0) → List Decision → Type 0
HasMember has ds = ∥ Member has ds ∥₁

-- on all evidence with turns below 3 that agrees with the decisions before it, the symbols stand in each literal of the decisions
-- as the sorts say that the run takes there; `before` stands before all of them
unfoldable pub KeepSortsBehind : (Evidence → List Sort) → List Decision → List Decision → Type 0
KeepSortsBehind takes before [] = Unit {0}
KeepSortsBehind takes before (fact l ∷ ds) = ((e : Evidence) → HasTurns e → Agrees e before → IsOfSorts (slice_get (takes e)) l)
    × KeepSortsBehind takes (before ++ fact l ∷ []) ds
KeepSortsBehind takes before (turn_is k n ∷ ds) = KeepSortsBehind takes (before ++ turn_is k n ∷ []) ds

-- the decisions keep the sorts of the unit
abbrev pub KeepSorts : (Evidence → List Sort) → List Decision → Type 0
KeepSorts takes ds = KeepSortsBehind takes [] ds

-- the symbols made so far have the first of the sorts that the run takes; or the run has ended, at a negative reference
unfoldable pub Tracks : List Sort → List Sort → Values → Type 0
Tracks made taken v = IsFront made taken ⊎ (IsFront taken made × (AreUp taken v → ⊥))

-- all that a run along one path keeps of sorts
pub record Sorted (takes : Evidence → List Sort) (path : List Literal) (turns : List ℕ) (decisions : List Decision)
    (made : List Sort) : Type 0 where
  pub follows : (e : Evidence) → Agrees e decisions → Follows path turns e
  pub meets : (v : Values) → Meets v path → Meets v (literals_in decisions)
  pub numbers : (k : ℕ) → IsNumberAmong (literals_in decisions) k → IsNumberAmong path k
  pub references : (k : ℕ) → IsReferenceAmong (literals_in decisions) k → IsReferenceAmong path k
  pub numbered : AreNumbered 0 decisions
  pub below : AllBelow (turns_in decisions)
  pub apart : CanBeMet path → AreSortsApart path
  pub fits : (e : Evidence) → HasTurns e → Agrees e decisions → AreOfSorts (slice_get (takes e)) path
  pub keep : KeepSorts takes decisions
  pub tracks : (e : Evidence) → HasTurns e → Agrees e decisions → Tracks made (takes e) e.values

-- the same as a word that clauses pass on
unfoldable pub AreSorted : (Evidence → List Sort) → List Literal → List ℕ → List Decision → List Sort → Type 0
AreSorted takes path turns decisions made = Sorted takes path turns decisions made
