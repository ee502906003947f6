-- A run that picks a position of a range and never fails does so at each of them.
use Rattle.std.proofs.Common.{◌≡◌, ℤ, true, if◌then◌else◌, subst}
use Rattle.pv_picks.specs.Judge.Runs.{Judged, Maps, blocked, pick_number}
use Rattle.pv_picks.specs.Formulas.Values.{within}
use Rattle.account_formulas.specs.Runs.{Taken, RestNeverFails}
use Rattle.account_formulas.proofs.Lengths.{never_number}

-- at each position of a range
pub never_within : (taken : Taken) (low high : ℤ) (rest : Maps → ℤ → Judged)
    → RestNeverFails taken (λ maps. pick_number (λ z. if within low high z then rest maps z else blocked))
    → (z : ℤ) → within low high z ≡ true → RestNeverFails taken (λ maps. rest maps z)
never_within taken low high rest n z w = subst (λ b. RestNeverFails taken (λ maps. if b then rest maps z else blocked)) w
    (never_number taken (λ maps z. if within low high z then rest maps z else blocked) z n)
