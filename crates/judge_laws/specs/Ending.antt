-- Where a drawn run ends unfit: just behind a negative number in the place of a reference.
use Rattle.std.specs.Prelude.{◌≡◌, ◌⊎◌, ◌<◌, ◌<ℤ◌, ℕ, suc, ℤ, pos, List, [], ◌∷◌}
use Rattle.pv_ast.specs.declared.PvType.{PvType}
use Rattle.pv_picks.specs.declared.unit.PvUnit.{PvUnit}
use Rattle.pv_picks.specs.Plain.Core.{Program}
use Rattle.pv_picks.specs.Lazy.Runs.{Unfit, drawn_run}
use Rattle.judge_laws.specs.Related.{IsOfReferences}

-- of the numbers that are taken for these types, from the k-th on, the last is negative in the place of a reference
abbrev pub EndAtNegative : (ℕ → ℤ) → ℕ → List PvType → Type 0
EndAtNegative values k [] = ⊥
EndAtNegative values k (t ∷ ts) = EndAtNegative values (suc k) ts ⊎ (IsOfReferences t × ((values k <ℤ pos 0) × (ts ≡ [])))

-- with turns below 3, a drawn run that ends unfit ends just behind such a number
abbrev pub EndsUnfitAtNegative : Type 0
EndsUnfitAtNegative = (p : Program) (unit : PvUnit) (values : ℕ → ℤ) (turns : ℕ → ℕ) → ((k : ℕ) → turns k < 3)
    → (drawn_run p unit values turns).end.end ≡ Unfit → EndAtNegative values 0 (drawn_run p unit values turns).types
