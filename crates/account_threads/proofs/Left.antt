-- A state with less of one resource fits the heap.
use Rattle.std.proofs.Common.{◌≡◌, ℕ, zero, suc, ◌≤◌, Bool, true, false, if◌then◌else◌, Option, Some, None, refl, ap, sym, subst, ◌∙◌, arith}
use Rattle.std.proofs.lemmas.Option.{none-some}
use Rattle.pv_picks.specs.Formulas.Heaps.{Heap}
use Rattle.pv_picks.specs.Judge.States.{Resource, Holding, State, amount_of, amount_held, cell_held, holding, same_resource, with_amount}
use Rattle.pv_picks.proofs.Sames.{resources_same}
use Rattle.account_formulas.specs.Runs.{Taken}
use Rattle.account_formulas.specs.Growing.{IsHeld, StateFits}
use Rattle.account_formulas.proofs.Basics.{less_at, same_self}
use Rattle.account_formulas.proofs.Lengths.{goes_on_same}
use Rattle.account_formulas.proofs.Exhaling.{holding_is, amounts_at}
use Rattle.account_formulas.proofs.Raising.{held_on}

-- less of one resource
module _ (flags : ℕ → Bool) (heap : Heap) (taken : Taken) (s : State) (x : Resource) (n : ℕ) (less : n ≤ amount_of s x) where
  there : (o : Option Holding) → n ≤ amount_held o → (h : Holding) → holding n (cell_held o) ≡ Some h
      → (k : Holding) × (o ≡ Some k) × (h.cell ≡ k.cell) × (1 ≤ h.amount)
  there None m h is = let at = holding_is n (cell_held None) h is in let some = at.0 in absurd (none_of n is m h)
    where
      none_of : (n : ℕ) → holding n (cell_held None) ≡ Some h → n ≤ 0 → (h : Holding) → ⊥
      none_of zero is m k = none-some h is
      none_of (suc n) is m k = omega (arith, m)
  there (Some k) m h is = let at = holding_is n k.cell h is in (k, refl, sym at.1, at.0)

  pub less_fits : StateFits flags heap taken s → StateFits flags heap taken (with_amount s x n)
  less_fits fits = record {
    steps = fits.steps;
    agree = fits.agree;
    holds = λ q h is. holds q h (same_resource q x) refl is;
    knows = fits.knows;
    met = fits.met;
  }
    where
      holds : (q : Resource) (h : Holding) (b : Bool) → same_resource q x ≡ b
          → (if b then holding n (cell_held (s.held x)) else s.held q) ≡ Some h → IsHeld taken heap q h
      holds q h false e is = fits.holds q h is
      holds q h true e is =
          let at = there (s.held x) less h is in
          subst (λ z. IsHeld taken heap z h) (sym (resources_same q x e))
          (held_on heap taken taken (goes_on_same taken) x at.0 h (fits.holds x at.0 at.1) at.2 at.3)

  pub less_amounts : (q : Resource) → amount_of (with_amount s x n) q ≤ amount_of s q
  less_amounts q =
      let one = amounts_at s.held x n (cell_held (s.held x)) q in let two = less_at (amount_of s) x n less q in
      omega (arith, one, two)

  pub less_there : amount_of (with_amount s x n) x ≡ n
  less_there = amounts_at s.held x n (cell_held (s.held x)) x ∙ ap (λ b. if b then n else amount_of s x) (same_self x)
