-- A step map that lists names alone is carried between names.
use Rattle.std.proofs.Common.{◌≡◌, ℕ, zero, suc, ℤ, pos, Bool, true, false, if◌then◌else◌, List, [], ◌∷◌, append-nil, refl, ap, sym, subst, ◌∙◌, inl, inr, rules, arith}
use Rattle.std.specs.Prelude.{int_le, ◌≤ℤ◌}
use Rattle.std.proofs.lemmas.Int.{ints, by_lt_z}
use Rattle.pv_picks.specs.declared.evidence.Pick.{Pick}
use Rattle.pv_picks.specs.declared.evidence.Pick.TheVariants.{Number, Turn, Steps}
use Rattle.pv_picks.specs.declared.evidence.StepPair.{StepPair}
use Rattle.pv_picks.specs.Judge.Runs.{maps_of, step_from, step_value}
use Rattle.judge_facts.specs.Finite.{IsOneOf}
use Rattle.judge_facts.specs.Fair.{Nearest}
use Rattle.judge_facts.specs.Shapes.{IsShaped}
use Rattle.judge_facts.specs.Carried.{pairs_of, ListsNames, JudgesOnListedNames, JudgesAsItDrew}
use Rattle.judge_facts.proofs.Shaping.{shaped_program, shaped_task}
use Rattle.pv_picks.specs.Lazy.Runs.{Final, Outcome}
use Rattle.judge_laws.specs.Judging.{as_end}
use Rattle.judge_laws.proofs.Backing.{drawn_runs_as_lazy}
use Rattle.judge_facts.proofs.Goodness.{judges_as_lazy_run}

below_both : (a p q : ℤ) → a ≤ℤ p → a ≤ℤ q → int_le a p ≡ int_le a q
below_both a p q h k = search (rules, ints)

same_side : (ns : List ℤ) (p q a : ℤ) → Nearest ns p q → IsOneOf a ns → int_le a p ≡ int_le a q
same_side ns p q a n i = let u = n.below in by_lt_z p a
    (λ h. let k : int_le a p ≡ false = search (rules, ints) in
    let l : int_le a q ≡ false = by_lt_z q a (λ g. search (rules, ints)) (λ g. absurd (omega (arith, ints, u, h, g))) in
    k ∙ sym l)
    (λ h. below_both a p q h (n.none a i h))

steps_same : (ns : List ℤ) (p q : ℤ) → Nearest ns p q → (pairs : List StepPair)
    → ((x : StepPair) → IsOneOf x pairs → IsOneOf x.at ns) → (v : ℤ) → step_from v pairs p ≡ step_from v pairs q
steps_same ns p q n [] h v = refl
steps_same ns p q n (x ∷ xs) h v =
    ap (λ (b : Bool). if b then step_from x.value xs p else step_from v xs p) (same_side ns p q x.at n (h x (inl refl)))
    ∙ go (int_le x.at q) (steps_same ns p q n xs (λ y i. h y (inr i)) x.value) (steps_same ns p q n xs (λ y i. h y (inr i)) v)
  where
    go : (b : Bool) → step_from x.value xs p ≡ step_from x.value xs q → step_from v xs p ≡ step_from v xs q
        → (if b then step_from x.value xs p else step_from v xs p) ≡ (if b then step_from x.value xs q else step_from v xs q)
    go true e f = e
    go false e f = f

map_steps : (picks : List Pick) (n : ℕ) (i : ℤ) → maps_of picks n i ≡ step_value (pairs_of picks n) i
map_steps [] n i = refl
map_steps (Number z ∷ ps) n i = map_steps ps n i
map_steps (Turn t ∷ ps) n i = map_steps ps n i
map_steps (Steps m ∷ ps) zero i = refl
map_steps (Steps m ∷ ps) (suc n) i = map_steps ps n i

pub judges_on_listed_names : JudgesOnListedNames
judges_on_listed_names p unit evidence shaped lists =
    judges_as_lazy_run p unit evidence (shaped_program IsShaped p shaped) (shaped_task IsShaped p shaped unit)
    (λ x i a b n. map_steps evidence.picks x.number a ∙ steps_same _ a b n (pairs_of evidence.picks x.number) (lists x i) (pos 0)
    ∙ sym (map_steps evidence.picks x.number b))

pub judges_as_it_drew : JudgesAsItDrew
judges_as_it_drew p unit evidence values turns shaped kinds_there reads_there uses_there lists =
    let same = drawn_runs_as_lazy p unit evidence values turns [] (kinds_there ∙ sym (append-nil _)) reads_there uses_there in
    judges_on_listed_names p unit evidence shaped
    (subst (λ (o : Outcome Final). ListsNames evidence.picks o.end) (sym same) lists)
    ∙ ap (λ (o : Outcome Final). as_end o.end.end) same
