-- What is left of a state where a formula was given up.
use Rattle.std.specs.Prelude.{◌≡◌, ◌+◌, ◌≤◌, ℕ, Bool, Option, Some, List}
use Rattle.pv_picks.specs.Plain.Core.{Program}
use Rattle.pv_picks.specs.Formulas.Heaps.{Heap}
use Rattle.pv_picks.specs.Judge.States.{Resource, Folded, Holding, State, amount_held}
use Rattle.pv_picks.specs.Judge.Settings.{Next}
use Rattle.pv_picks.specs.Judge.Runs.{Judged, Maps}
use Rattle.account_formulas.specs.Sights.{Lengths, LengthsAgree}
use Rattle.account_formulas.specs.Runs.{Taken, RestNeverFails}
use Rattle.account_formulas.specs.Owning.{Amounts, HasTrees}

-- what is held of each resource
abbrev pub Holdings : Type 0
Holdings = Resource → Option Holding

-- how much is held of each resource
abbrev pub amounts_in : Holdings → Amounts
amounts_in H r = amount_held (H r)

-- a state by what changes in an exhale
abbrev pub with_left : State → Holdings → List Folded → Lengths → State
with_left s H I l = record s { held = H; instances = I; lengths = l }

-- what is left has what was in it before
abbrev pub Leaves : Holdings → Holdings → Type 0
Leaves H K = (r : Resource) (h : Holding) → K r ≡ Some h → (k : Holding) × (H r ≡ Some k) × (k.cell ≡ h.cell)
    × (1 ≤ k.amount → 1 ≤ h.amount)

-- a formula was given up: what is left and the part that the formula owns are no more than what was held, with T for its
-- instances
pub record Gave (p : Program) (flags : ℕ → Bool) (present : Heap) (taken : Taken) (Owning : Amounts → Type 0) (s : State)
    (H : Holdings) (T : Amounts)
    (next : Maps → Next Judged)
    : Type 0 where
  pub held : Holdings
  pub instances : List Folded
  pub lengths : Lengths
  pub trees : Amounts
  pub part : Amounts
  pub never : RestNeverFails taken (λ maps. next maps (with_left s held instances lengths))
  pub agree : LengthsAgree present lengths
  pub owns : Owning part
  pub has_trees : HasTrees p flags present instances trees
  pub leaves : Leaves H held
  pub less : (r : Resource) → amounts_in held r ≤ amounts_in H r
  pub sum : (r : Resource) → amounts_in held r + trees r + part r ≤ amounts_in H r + T r
