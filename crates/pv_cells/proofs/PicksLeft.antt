-- What the picks that are left begin with.
use Rattle.std.proofs.Common.{◌≡◌, ℕ, zero, suc, ◌+◌, ◌<◌, ◌≤◌, ℤ, List, [], ◌∷◌, length, get_or, drop, refl, arith, ap, ◌∙◌}
use Rattle.std.proofs.lemmas.List.{drop_more}
use Rattle.pv_picks.specs.declared.evidence.Pick.{Pick}
use Rattle.pv_picks.specs.declared.evidence.Pick.TheVariants.{Number, Turn, Steps}
use Rattle.pv_picks.specs.declared.evidence.StepPair.{StepPair}
use Rattle.pv_cells.specs.declared.halt.Halt.{Halt}
use Rattle.pv_cells.specs.declared.halt.Halt.TheVariants as halt
use Rattle.pv_cells.specs.Limits.{pick_number, pick_steps}
use Rattle.pv_cells.specs.Picks.{IsNumber, NoNumber, IsSteps, NoSteps}

pub number_left : (picks : List Pick) (n : ℕ) (z : ℤ) (d : Pick) → n < length picks → get_or picks n d ≡ Number z
    → IsNumber (drop n picks) z (drop (n + 1) picks)
unfolding IsNumber
number_left picks n z d l e next =
    ap (pick_number next) (drop_more picks n d l ∙ ap (λ p. p ∷ drop (n + 1) picks) e)

pub turn_left : (picks : List Pick) (n t : ℕ) (d : Pick) → n < length picks → get_or picks n d ≡ Turn t
    → NoNumber (drop n picks)
unfolding NoNumber
turn_left picks n t d l e next =
    ap (pick_number next) (drop_more picks n d l ∙ ap (λ p. p ∷ drop (n + 1) picks) e)

pub steps_left : (picks : List Pick) (n : ℕ) (m : List StepPair) (d : Pick) → n < length picks → get_or picks n d ≡ Steps m
    → NoNumber (drop n picks)
unfolding NoNumber
steps_left picks n m d l e next =
    ap (pick_number next) (drop_more picks n d l ∙ ap (λ p. p ∷ drop (n + 1) picks) e)

nothing_behind : {A : Type 0} (xs : List A) (n : ℕ) → length xs ≤ n → drop n xs ≡ []
nothing_behind [] zero l = refl
nothing_behind [] (suc n) l = refl
nothing_behind (x ∷ xs) zero l = absurd (omega arith)
nothing_behind (x ∷ xs) (suc n) l = nothing_behind xs n (omega arith)

pub none_left : (picks : List Pick) (n : ℕ) → length picks ≤ n → NoNumber (drop n picks)
unfolding NoNumber
none_left picks n l next = ap (pick_number next) (nothing_behind picks n l)

-- Picks for ranges

pub range_left : (picks : List Pick) (n : ℕ) (m : List StepPair) (d : Pick) → n < length picks → get_or picks n d ≡ Steps m
    → IsSteps (drop n picks) (drop (n + 1) picks)
unfolding IsSteps
range_left picks n m d l e next =
    ap (pick_steps next) (drop_more picks n d l ∙ ap (λ p. p ∷ drop (n + 1) picks) e)

pub number_instead : (picks : List Pick) (n : ℕ) (z : ℤ) (d : Pick) → n < length picks → get_or picks n d ≡ Number z
    → NoSteps halt.Blocked (drop n picks)
unfolding NoSteps
number_instead picks n z d l e next =
    ap (pick_steps next) (drop_more picks n d l ∙ ap (λ p. p ∷ drop (n + 1) picks) e)

pub turn_instead : (picks : List Pick) (n t : ℕ) (d : Pick) → n < length picks → get_or picks n d ≡ Turn t
    → NoSteps halt.Blocked (drop n picks)
unfolding NoSteps
turn_instead picks n t d l e next =
    ap (pick_steps next) (drop_more picks n d l ∙ ap (λ p. p ∷ drop (n + 1) picks) e)

pub no_range_left : (picks : List Pick) (n : ℕ) → length picks ≤ n → NoSteps halt.Blocked (drop n picks)
unfolding NoSteps
no_range_left picks n l next = ap (pick_steps next) (nothing_behind picks n l)

pub no_room : (picks : List Pick) (h : Halt) → h ≡ halt.NoMemory → NoSteps h picks
unfolding NoSteps
no_room picks h is = rw is tt
