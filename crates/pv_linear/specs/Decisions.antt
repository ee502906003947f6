-- The decisions of a path, and what two pieces of evidence come to at them.
use Rattle.std.specs.Prelude.{ℕ, suc, ◌<◌, ◌≡◌, ◌⊎◌, List, [], ◌∷◌, ◌++◌, Some, length, slice_get, slice_index}
use Rattle.pv_linear.specs.declared.Literal.{Literal}
use Rattle.pv_linear.specs.Values.{Values}
use Rattle.pv_linear.specs.Literal.{Holds, Meets, opposite}
use Rattle.pv_linear.specs.Evidence.{Evidence, CanBeMet}

-- a decision: a literal as it was answered, or which the k-th turn is, counted from 0
pub data Decision : Type 0 where
  fact : Literal → Decision
  turn_is : ℕ → ℕ → Decision

-- the evidence agrees with the decision
abbrev pub On : Evidence → Decision → Type 0
On e (fact l) = Holds e.values l
On e (turn_is k n) = e.turns k ≡ n

-- it agrees with all of them
unfoldable pub Agrees : Evidence → List Decision → Type 0
Agrees e [] = Unit {0}
Agrees e (d ∷ ds) = On e d × Agrees e ds

-- the literals among the decisions
abbrev pub literals_in : List Decision → List Literal
literals_in [] = []
literals_in (fact l ∷ ds) = l ∷ literals_in ds
literals_in (turn_is k n ∷ ds) = literals_in ds

-- the turns among the decisions
abbrev pub turns_in : List Decision → List ℕ
turns_in [] = []
turns_in (fact l ∷ ds) = turns_in ds
turns_in (turn_is k n ∷ ds) = n ∷ turns_in ds

-- the turns among the decisions are numbered in their order, from k on
abbrev pub AreNumbered : ℕ → List Decision → Type 0
AreNumbered k [] = Unit {0}
AreNumbered k (fact l ∷ ds) = AreNumbered k ds
AreNumbered k (turn_is j n ∷ ds) = (j ≡ k) × AreNumbered (suc k) ds

-- all turns are below 3
abbrev pub AllBelow : List ℕ → Type 0
AllBelow ns = (k : ℕ) → slice_index ns k < 3

-- one list is the front of the other
abbrev pub IsFront : {A : Type 0} → List A → List A → Type 0
IsFront {A = A} xs ys = (zs : List A) × (ys ≡ xs ++ zs)

-- the turns taken are the first of the turns among the decisions, which are numbered from 0 on
pub record AreTaken (turns : List ℕ) (decisions : List Decision) : Type 0 where
  pub numbered : AreNumbered 0 decisions
  pub front : IsFront turns (turns_in decisions)

-- an answered literal is a decision exactly where both it and its opposite can be met together with the path; else it
-- follows from the path
pub data Decides (path : List Literal) (old new : List Decision) (l : Literal) : Type 0 where
  added : CanBeMet (path ++ l ∷ []) → CanBeMet (path ++ opposite l ∷ []) → new ≡ old ++ fact l ∷ [] → Decides path old new l
  entailed : new ≡ old → ((v : Values) → Meets v path → Holds v l) → Decides path old new l

-- a turn is a new decision exactly where no turn is kept; else it is the kept one that comes next
pub data DecidesTurn (turns : List ℕ) (old new : List Decision) (n : ℕ) : Type 0 where
  turned_to : turns_in old ≡ turns → new ≡ old ++ turn_is (length turns) n ∷ [] → DecidesTurn turns old new n
  kept : slice_get (turns_in old) (length turns) ≡ Some n → new ≡ old → DecidesTurn turns old new n

-- both agree with all decisions
unfoldable pub Level : List Decision → Evidence → Evidence → Type 0
Level ds e f = Agrees e ds × Agrees f ds

-- both are off the decision in the same way: the literal holds of neither, or their turns are the same, and another one
abbrev pub Apart : Evidence → Evidence → Decision → Type 0
Apart e f (fact l) = (Holds e.values l → ⊥) × (Holds f.values l → ⊥)
Apart e f (turn_is k n) = (e.turns k ≡ f.turns k) × (e.turns k ≡ n → ⊥)

-- both agree with the decisions up to one, and both leave at that one
unfoldable pub Gone : List Decision → Evidence → Evidence → Type 0
Gone [] e f = ⊥
Gone (d ∷ ds) e f = Apart e f d ⊎ ((On e d × On f d) × Gone ds e f)

-- pieces of evidence with one pattern agree with all decisions, or leave together
abbrev pub OfUnit : {A : Type 0} → (Evidence → A) → (Evidence → Type 0) → List Decision → Type 0
OfUnit pattern has ds = (e f : Evidence) → has e → has f → pattern e ≡ pattern f → Level ds e f ⊎ Gone ds e f
