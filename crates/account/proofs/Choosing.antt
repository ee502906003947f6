-- A turn that is chosen leaves the maps of the picks for ranges as they are.
use Rattle.std.proofs.Common.{◌≡◌, ℕ, zero, suc, true, List, ◌∷◌, refl, ap, sym, subst, ◌∙◌}
use Rattle.std.specs.Prelude.{nat_lt, if◌then◌else◌}
use Rattle.pv_picks.specs.declared.evidence.Pick.{Pick}
use Rattle.pv_picks.specs.declared.evidence.Pick.TheVariants.{Turn}
use Rattle.pv_picks.specs.Judge.Runs.{Failed, Blocked, Judged, Maps, pick_turn, before_others, maps_from}
use Rattle.account_formulas.specs.Runs.{Taken, all_maps, RestNeverFails}

turn_passed : (n : ℕ) (maps : Maps) (turn : ℕ) (picks : List Pick)
    → maps_from n maps (Turn turn ∷ picks) ≡ maps_from n maps picks
turn_passed zero maps turn picks = refl
turn_passed (suc n) maps turn picks = ap (before_others (maps zero)) (turn_passed n (λ k. maps (suc k)) turn picks)

-- whatever turn is chosen, the run doesn't fail
pub never_turn : (taken : Taken) (rest : Maps → ℕ → Judged) (turn : ℕ) → nat_lt turn 3 ≡ true
    → RestNeverFails taken (λ maps. pick_turn (rest maps)) → RestNeverFails taken (λ maps. rest maps turn)
never_turn taken rest turn less n = record {
  never = λ picks check span bad. n.never (Turn turn ∷ picks) check span
      (ap (λ b. if b then rest (all_maps taken (Turn turn ∷ picks)) turn picks else Blocked) less
      ∙ subst (λ m. rest m turn picks ≡ Failed check span) (sym (turn_passed taken.steps taken.maps turn picks)) bad);
}
