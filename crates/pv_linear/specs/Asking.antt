-- What holds from question to question.
use Rattle.std.specs.Prelude.{ℕ, ℤ, ◌≡◌, ◌⊎◌, List, [], ◌∷◌, Bool, int_le, ◌&&◌}
use Rattle.pv_linear.specs.declared.Sort.{Sort}
use Rattle.pv_linear.specs.declared.Literal.{Literal}
use Rattle.pv_linear.specs.Evidence.{Evidence, Follows}
use Rattle.pv_linear.specs.Decisions.{Decision, Level, Gone}

-- a run that may make symbols and take turns, refused or not: what follows it followed before, what stands in some part is what
-- stood in some part, no path has ended, and what has left a decision together has left it for good
pub record Goes {S : Type 0} (path : S → List Literal) (turns : S → List ℕ) (decisions : S → List Decision)
    (stands : S → Evidence → Type 0) (ended : S → ℕ) (old new : S) : Type 0 where
  pub narrows : (e : Evidence) → Follows (path new) (turns new) e → Follows (path old) (turns old) e
  pub keeps : (e : Evidence) → stands old e → stands new e
  pub adds : (e : Evidence) → stands new e → stands old e
  pub gone : (e f : Evidence) → Gone (decisions old) e f → Gone (decisions new) e f
  pub ended_same : ended new ≡ ended old

-- a run of questions: it makes no symbol and takes no turn besides
pub record Asks {S : Type 0} (path : S → List Literal) (turns : S → List ℕ) (decisions : S → List Decision)
    (stands : S → Evidence → Type 0) (ended : S → ℕ) (sorts : S → List Sort) (old new : S) : Type 0 where
  pub narrows : (e : Evidence) → Follows (path new) (turns new) e → Follows (path old) (turns old) e
  pub keeps : (e : Evidence) → stands old e → stands new e
  pub adds : (e : Evidence) → stands new e → stands old e
  pub gone : (e f : Evidence) → Gone (decisions old) e f → Gone (decisions new) e f
  pub ended_same : ended new ≡ ended old
  pub sorts_same : sorts new ≡ sorts old
  pub turns_same : turns new ≡ turns old

-- two pieces of evidence that were together still are, and P; or they left at one decision
abbrev pub Together : {S : Type 0} → (S → List Literal) → (S → List ℕ) → (S → List Decision) → S → Evidence → Evidence → Type 0
    → Type 0
Together path turns decisions new e f P = (Follows (path new) (turns new) e
    × (Follows (path new) (turns new) f × (Level (decisions new) e f × P))) ⊎ Gone (decisions new) e f

-- one list is the front of the other
unfoldable pub Meet : {A : Type 0} → List A → List A → Type 0
Meet [] ys = Unit {0}
Meet (x ∷ xs) [] = Unit {0}
Meet (x ∷ xs) (y ∷ ys) = (x ≡ y) × Meet xs ys

-- two pieces of evidence that are together, of which neither shows what the other doesn't, stay together and have shown the
-- same, or leave at one decision
abbrev pub Tells : {S A : Type 0} → (S → List Literal) → (S → List ℕ) → (S → List Decision) → S → S → (Evidence → List A) → Type 0
Tells path turns decisions old new show = (e f : Evidence) → Follows (path old) (turns old) e → Follows (path old) (turns old) f
    → Level (decisions old) e f → Meet (show e) (show f) → Together path turns decisions new e f (show e ≡ show f)

-- a run that was refused on its way, and would have shown this: two pieces of evidence that are together, of which neither shows
-- what the other doesn't, stay together or leave at one decision
abbrev pub TellsStopped : {S A : Type 0} → (S → List Literal) → (S → List ℕ) → (S → List Decision) → S → S → (Evidence → List A)
    → Type 0
TellsStopped path turns decisions old new show = (e f : Evidence) → Follows (path old) (turns old) e
    → Follows (path old) (turns old) f → Level (decisions old) e f → Meet (show e) (show f)
    → Together path turns decisions new e f (Unit {0})

-- they stay together where this is the same of both, or leave at one decision
abbrev pub Rests : {S A : Type 0} → (S → List Literal) → (S → List ℕ) → (S → List Decision) → S → S → (Evidence → A) → Type 0
Rests path turns decisions old new on = (e f : Evidence) → Follows (path old) (turns old) e → Follows (path old) (turns old) f
    → Level (decisions old) e f → on e ≡ on f → Together path turns decisions new e f (Unit {0})

-- they stay together
abbrev pub Stays : {S : Type 0} → (S → List Literal) → (S → List ℕ) → (S → List Decision) → S → S → Type 0
Stays path turns decisions old new = (e f : Evidence) → Follows (path old) (turns old) e → Follows (path old) (turns old) f
    → Level (decisions old) e f → Together path turns decisions new e f (Unit {0})

-- whether two numbers are the same
abbrev pub int_same : ℤ → ℤ → Bool
int_same a b = int_le a b && int_le b a
