-- What a call says that does a part of a unit's run on symbols: under all evidence that follows the asker, the drawn run of the
-- part does the same. All parts are spoken of in these words: an expression, a pick, a formula, a statement.
use Rattle.std.specs.Prelude.{ℕ, ◌+◌, ◌≤◌, ◌≡◌, ◌⊎◌, List, ◌++◌, map, length}
use Rattle.pv_ast.specs.declared.PvType.{PvType}
use Rattle.pv_ast.specs.declared.PvType.TheVariants as type
use Rattle.pv_linear.specs.declared.Sort.{Sort}
use Rattle.pv_linear.specs.declared.Sort.TheVariants as sort
use Rattle.pv_linear.specs.declared.Literal.{Literal}
use Rattle.pv_linear.specs.Values.{Values}
use Rattle.pv_linear.specs.Evidence.{Evidence, HasTurns, Follows}
use Rattle.pv_linear.specs.Decisions.{Decision, IsFront, Level}
use Rattle.pv_linear.specs.Asking.{Goes, Meet, Together}
use Rattle.pv_linear.specs.Keeping.{AreUp, AreSorted}
use Rattle.pv_picks.specs.Judge.States.{State}
use Rattle.pv_picks.specs.Lazy.Patterns.{Shown}
use Rattle.pv_picks.specs.Lazy.Runs.{Ends, Unfit, Lazily, Drawn, Final, final}
use Rattle.pv_picks.specs.Lazy.Parts.{Came, Stopped, Ran, then_run}
use Rattle.pv_picks.specs.Lazy.Parts as parts

-- the sort of the symbols that stand for values of a type
abbrev pub sort_of : PvType → Sort
sort_of type.Int = sort.Number
sort_of type.Truth = sort.Truth
sort_of (type.Object class) = sort.Reference
sort_of type.IntArray = sort.Reference
sort_of type.TruthArray = sort.Reference
sort_of type.Null = sort.Reference

-- the sorts of the values that a part takes
abbrev pub sorts_in : {A : Type 0} → Ran A → List Sort
sorts_in o = map sort_of o.types

-- no reference is negative among the values that were taken before and those that the part takes
unfoldable pub IsUp : {A : Type 0} → List Sort → Values → Ran A → Type 0
IsUp before v o = AreUp (before ++ sorts_in o) v

-- it doesn't end at a negative number in the place of a reference
abbrev pub IsFitEnd : {A : Type 0} → Came A → Type 0
IsFitEnd (parts.Goes a state memory drawn) = Unit {0}
IsFitEnd (Stopped (Ends end) memory) = Unit {0}
IsFitEnd (Stopped Unfit memory) = ⊥

-- a negative reference stands among the values
abbrev pub HasEnded : List Sort → Values → Type 0
HasEnded taken v = AreUp taken v → ⊥

-- what is made in a call is what the part takes; or the part ends before, at a negative reference
unfoldable pub Took : {A : Type 0} → List Sort → List Sort → Values → Ran A → Type 0
Took before after v o = (AreUp (before ++ sorts_in o) v × (after ≡ before ++ sorts_in o))
    ⊎ ((IsFitEnd o.end → ⊥) × (IsFront (before ++ sorts_in o) after × HasEnded (before ++ sorts_in o) v))

-- the unit's run takes what was made before, no negative reference among it, then what this part takes, and then something more
pub record IsLeft {A : Type 0} (taken before : List Sort) (v : Values) (o : Ran A) : Type 0 where
  pub up : AreUp before v
  pub next : A → State → Lazily Drawn Final
  pub is : taken ≡ before ++ map sort_of (then_run final o next).types

-- the part is what is left of the unit's run; or that has ended before
unfoldable pub Reaches : {A : Type 0} → List Sort → List Sort → Values → Ran A → Type 0
Reaches taken before v o = IsLeft taken before v o ⊎ (IsFront taken before × HasEnded taken v)

-- two pieces of evidence that are together, of which neither shows what the other doesn't, stay together and have shown the same,
-- or leave at one decision
abbrev pub TellsOf : {S A : Type 0} → (S → List Literal) → (S → List ℕ) → (S → List Decision) → (S → List Sort) → S → S
    → (Evidence → Ran A) → Type 0
TellsOf path turns decisions sorts old new part = (e f : Evidence) → Follows (path old) (turns old) e
    → Follows (path old) (turns old) f → Level (decisions old) e f
    → IsUp (sorts old) e.values (part e) → IsUp (sorts old) f.values (part f) → Meet (part e).shows (part f).shows
    → Together path turns decisions new e f ((part e).shows ≡ (part f).shows)

abbrev pub StopsOf : {S A : Type 0} → (S → List Literal) → (S → List ℕ) → (S → List Decision) → (S → List Sort) → S → S
    → (Evidence → Ran A) → Type 0
StopsOf path turns decisions sorts old new part = (e f : Evidence) → Follows (path old) (turns old) e
    → Follows (path old) (turns old) f → Level (decisions old) e f
    → IsUp (sorts old) e.values (part e) → IsUp (sorts old) f.values (part f) → Meet (part e).shows (part f).shows
    → Together path turns decisions new e f (Unit {0})

-- the same of a question, which makes nothing: it shows this
abbrev pub TellsShown : {S : Type 0} → (S → List Literal) → (S → List ℕ) → (S → List Decision) → (S → List Sort) → S → S
    → (Evidence → List Shown) → Type 0
TellsShown path turns decisions sorts old new show = (e f : Evidence) → Follows (path old) (turns old) e
    → Follows (path old) (turns old) f → Level (decisions old) e f → AreUp (sorts old) e.values → AreUp (sorts old) f.values
    → Meet (show e) (show f) → Together path turns decisions new e f (show e ≡ show f)

abbrev pub StopsShown : {S : Type 0} → (S → List Literal) → (S → List ℕ) → (S → List Decision) → (S → List Sort) → S → S
    → (Evidence → List Shown) → Type 0
StopsShown path turns decisions sorts old new show = (e f : Evidence) → Follows (path old) (turns old) e
    → Follows (path old) (turns old) f → Level (decisions old) e f → AreUp (sorts old) e.values → AreUp (sorts old) f.values
    → Meet (show e) (show f) → Together path turns decisions new e f (Unit {0})

-- what holds of sorts in the unit's run, of which the part is left, is kept
abbrev pub KeepsSorts : {S A : Type 0} → (S → List Literal) → (S → List ℕ) → (S → List Decision) → (S → List Sort) → S → S
    → (Evidence → Ran A) → Type 0
KeepsSorts path turns decisions sorts old new part = (takes : Evidence → List Sort)
    → AreSorted takes (path old) (turns old) (decisions old) (sorts old)
    → ((e : Evidence) → Follows (path old) (turns old) e → HasTurns e → Reaches (takes e) (sorts old) e.values (part e))
    → AreSorted takes (path new) (turns new) (decisions new) (sorts new)

-- a question keeps what holds of sorts, in whichever unit's run
abbrev pub StaysSorted : {S : Type 0} → (S → List Literal) → (S → List ℕ) → (S → List Decision) → (S → List Sort) → S → S → Type 0
StaysSorted path turns decisions sorts old new = (takes : Evidence → List Sort)
    → AreSorted takes (path old) (turns old) (decisions old) (sorts old)
    → AreSorted takes (path new) (turns new) (decisions new) (sorts new)

-- there is a unit's run of which what holds of sorts is kept
unfoldable pub IsSorted : {S : Type 0} → (S → List Literal) → (S → List ℕ) → (S → List Decision) → (S → List Sort) → S → Type 0
IsSorted path turns decisions sorts asker =
    ∥ ((takes : Evidence → List Sort) × AreSorted takes (path asker) (turns asker) (decisions asker) (sorts asker)) ∥₁

-- the call did the part, which came to this
pub record Does {S A : Type 0} (path : S → List Literal) (turns : S → List ℕ) (decisions : S → List Decision)
    (stands : S → Evidence → Type 0) (ended : S → ℕ) (sorts : S → List Sort) (old new : S) (part : Evidence → Ran A)
    (came : Evidence → Came A) : Type 0 where
  pub goes : Goes path turns decisions stands ended old new
  pub grows : IsFront (sorts old) (sorts new)
  pub ends : (e : Evidence) → Follows (path new) (turns new) e → IsUp (sorts old) e.values (part e) → (part e).end ≡ came e
  pub tells : TellsOf path turns decisions sorts old new part
  pub took : (e : Evidence) → Follows (path new) (turns new) e → AreUp (sorts old) e.values
      → Took (sorts old) (sorts new) e.values (part e)
  pub keeps : KeepsSorts path turns decisions sorts old new part

-- the call was refused within the part
pub record Halts {S A : Type 0} (path : S → List Literal) (turns : S → List ℕ) (decisions : S → List Decision)
    (stands : S → Evidence → Type 0) (ended : S → ℕ) (sorts : S → List Sort) (old new : S) (part : Evidence → Ran A)
    : Type 0 where
  pub goes : Goes path turns decisions stands ended old new
  pub tells : StopsOf path turns decisions sorts old new part
  pub most : (e : Evidence) → Follows (path new) (turns new) e → IsUp (sorts old) e.values (part e)
      → length (sorts new) ≤ length (sorts old) + length (part e).types
  pub keeps : KeepsSorts path turns decisions sorts old new part

-- a part may begin: its questions may be asked
unfoldable pub Ready : {S A : Type 0} → (S → List Literal) → (S → List ℕ) → (S → List Decision) → (S → List Sort) → S
    → (Evidence → Ran A) → Type 0
Ready path turns decisions sorts asker part = ∥ ((takes : Evidence → List Sort)
    × (AreSorted takes (path asker) (turns asker) (decisions asker) (sorts asker)
    × ((e : Evidence) → Follows (path asker) (turns asker) e → HasTurns e
    → Reaches (takes e) (sorts asker) e.values (part e)))) ∥₁
