-- The maps of picks for ranges, by their places.
use Rattle.std.proofs.Common.{◌≡◌, ℕ, zero, suc, ◌<◌, ◌≤◌, ℤ, pos, List, [], ◌∷◌, length, get_or, map, refl, arith}
use Rattle.pv_picks.specs.declared.evidence.StepPair.{StepPair}
use Rattle.pv_picks.specs.Judge.Runs.{step_value}
use Rattle.pv_cells.specs.Prepared.{maps_in}

pub map_at : {A : Type 0} (view : A → List StepPair) (ms : List A) (n : ℕ) (i : ℤ) (d : A) → n < length ms
    → step_value (view (get_or ms n d)) i ≡ maps_in (map view ms) n i
map_at view [] n i d l = absurd (omega arith)
map_at view (x ∷ xs) zero i d l = refl
map_at view (x ∷ xs) (suc n) i d l = map_at view xs n i d (omega arith)

pub no_map_at : {A : Type 0} (view : A → List StepPair) (ms : List A) (n : ℕ) (i : ℤ) → length ms ≤ n
    → pos 0 ≡ maps_in (map view ms) n i
no_map_at view [] n i l = refl
no_map_at view (x ∷ xs) zero i l = absurd (omega arith)
no_map_at view (x ∷ xs) (suc n) i l = no_map_at view xs n i (omega arith)
