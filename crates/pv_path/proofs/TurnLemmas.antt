-- What an answer leaves on a path.
use Rattle.std.proofs.Common.{◌≡◌, ℕ, zero, suc, ◌+◌, ◌<◌, ◌≤◌, ◌^◌, List, [], ◌∷◌, ◌++◌, length, take, Some, None, refl, ap, sym, subst, ◌∙◌, Bool, true, false, arith, append-nil, add-one, slice_get}
use Rattle.std.proofs.Math.Seq.{take-length}
use Rattle.std.proofs.lemmas.List.{length-take-le}
use Rattle.std.proofs.lemmas.Option.{slice_get_within}
use Rattle.pv_linear.specs.declared.Sort.{Sort}
use Rattle.pv_linear.specs.declared.Literal.{Literal}
use Rattle.pv_linear.specs.Values.{Values}
use Rattle.pv_linear.specs.Literal.{Holds, Meets, opposite}
use Rattle.pv_linear.specs.Evidence.{CanBeMet, HasAllSymbols}
use Rattle.pv_linear.specs.Decisions.{Decision, turn_is, turns_in, Decides, added, DecidesTurn, turned_to, kept}
use Rattle.pv_linear.proofs.MeetsLemmas.{opposite_denies, Meets-left, Meets-right}
use Rattle.pv_path.specs.declared.branch.Turn.TheVariants.{First}
use Rattle.pv_path.specs.declared.branch.Branch.{Branch}
use Rattle.pv_path.specs.declared.branch.Branch.TheVariants.{Open, Turned}
use Rattle.pv_path.specs.declared.literals.Settled.{Settled}
use Rattle.pv_path.specs.declared.literals.Settled.TheVariants.{Told, Undecided}
use Rattle.pv_path.specs.Branches.{decisions_of, parts_of, branch_literals, branch_turns, Among}
use Rattle.pv_path.specs.Standing.{CanStand, IsOpen, IsSettled, Narrowed}
use Rattle.pv_path.proofs.BranchLemmas.{decisions_more, branch_turns-append, turns_of_decisions, turns_few}
use Rattle.pv_path.proofs.StandingLemmas.{met_of_possible}
use Rattle.pv_path.proofs.PathLemmas.{met_wider}
use Rattle.std.proofs.Math.Logic.{∥∥₁_elim}

-- what is known of a literal, by cases
pub settled_true : (path : List Literal) (l : Literal) (s : Settled) (b : Bool) → IsSettled path l s → s ≡ Told b → b ≡ true
    → (v : Values) → Meets v path → Holds v l
settled_true path l s b h e t = subst (IsSettled path l) (e ∙ ap (λ c. Told c) t) h

pub settled_false : (path : List Literal) (l : Literal) (s : Settled) (b : Bool) → IsSettled path l s → s ≡ Told b → b ≡ false
    → (v : Values) → Meets v path → Holds v (opposite l)
settled_false path l s b h e t = subst (IsSettled path l) (e ∙ ap (λ c. Told c) t) h

pub settled_open : (path : List Literal) (l : Literal) (s : Settled) → IsSettled path l s → s ≡ Undecided → IsOpen path l
settled_open path l s h e = subst (IsSettled path l) e h

no_bottom : IsProp ⊥
no_bottom x y = absurd x

-- a literal that follows, or whose opposite does, is not open
pub not_open : (path : List Literal) (l : Literal) → ((v : Values) → Meets v path → Holds v l) → IsOpen path l → ⊥
not_open path l h o = ∥∥₁_elim o.1 no_bottom (λ s.
    opposite_denies s.values l (Meets-right s.values path (opposite l ∷ []) s.meets).0
    (h s.values (Meets-left s.values path (opposite l ∷ []) s.meets)))

pub opposite_not_open : (path : List Literal) (l : Literal) → ((v : Values) → Meets v path → Holds v (opposite l)) → IsOpen path l
    → ⊥
opposite_not_open path l h o = ∥∥₁_elim o.0 no_bottom
    (λ s. opposite_denies s.values l (h s.values (Meets-left s.values path (l ∷ []) s.meets))
    (Meets-right s.values path (l ∷ []) s.meets).0)

-- a literal that was undecided is a decision
pub decides_open : (path : List Literal) (bs new : List Branch) (l : Literal) → new ≡ bs ++ Open l ∷ [] → IsOpen path l
    → Decides path (decisions_of bs) (decisions_of new) l
decides_open path bs new l is o = added o.0 o.1 (ap decisions_of is ∙ decisions_more bs (Open l))

-- each path can be met
pub path_met : (bs : List Branch) (path ls : List Literal) → ls ≡ branch_literals bs
    → ((part : List Decision) → Among (parts_of bs) part → CanStand part) → ∥ Narrowed path ls ∥₁ → CanBeMet path
path_met bs path ls e h n = subst CanBeMet (append-nil path)
    (met_wider path ls [] n (subst CanBeMet (sym (append-nil ls)) (subst CanBeMet (sym e) (met_of_possible bs h))))

pub all_symbols : (bs : List Branch) (path ls : List Literal) (sorts : List Sort) → ls ≡ branch_literals bs
    → ((part : List Decision) → Among (parts_of bs) part → CanStand part) → ∥ Narrowed path ls ∥₁ → length sorts ≡ 4294967294
    → HasAllSymbols path sorts
unfolding HasAllSymbols
all_symbols bs path ls sorts e h n is = (path_met bs path ls e h n, omega (arith, is))

-- one more of the kept turns is taken
pub take_more : (xs : List ℕ) (k x : ℕ) → slice_get xs k ≡ Some x → take (k + 1) xs ≡ take k xs ++ x ∷ []
take_more xs k x h = rw add-one (go xs k h)
  where
    go : (xs : List ℕ) (k : ℕ) → slice_get xs k ≡ Some x → take (suc k) xs ≡ take k xs ++ x ∷ []
    go [] k h = cc h
    go (y ∷ ys) zero h = let e : y ≡ x = cc h in ap (λ z. z ∷ []) e
    go (y ∷ ys) (suc k) h = ap (λ zs. y ∷ zs) (go ys k h)

pub turn_kept : (bs : List Branch) (taken n : ℕ) → slice_get (branch_turns bs) taken ≡ Some n
    → DecidesTurn (take taken (branch_turns bs)) (decisions_of bs) (decisions_of bs) n
turn_kept bs taken n h =
    let lt : taken < length (branch_turns bs) = slice_get_within (branch_turns bs) taken n h in
    let count : length (take taken (branch_turns bs)) ≡ taken = length-take-le taken (branch_turns bs) (omega (arith, lt)) in
    kept (subst (λ (i : ℕ). slice_get (turns_in (decisions_of bs)) i ≡ Some n) (sym count)
    (subst (λ (ns : List ℕ). slice_get ns taken ≡ Some n) (sym (turns_of_decisions bs)) h)) refl

-- all kept turns are taken
none_left : (xs : List ℕ) (k : ℕ) → slice_get xs k ≡ None → length xs ≤ k
none_left [] k h = omega arith
none_left (x ∷ xs) zero h = cc h
none_left (x ∷ xs) (suc k) h = let i = none_left xs k h in omega (arith, i)

pub all_taken : (xs : List ℕ) (k : ℕ) → slice_get xs k ≡ None → k ≤ length xs → k ≡ length xs
all_taken xs k h le = omega (arith, none_left xs k h, le)

pub turns_first : (bs new : List Branch) → new ≡ bs ++ Turned First ∷ [] → branch_turns new ≡ branch_turns bs ++ 0 ∷ []
turns_first bs new is = ap branch_turns is ∙ branch_turns-append bs (Turned First ∷ [])

pub take_first_turn : (bs new : List Branch) (taken : ℕ) → new ≡ bs ++ Turned First ∷ [] → taken ≡ length (branch_turns bs)
    → take (taken + 1) (branch_turns new) ≡ take taken (branch_turns bs) ++ 0 ∷ []
take_first_turn bs new taken is e =
    ap (λ xs. take (taken + 1) xs) (turns_first bs new is)
    ∙ subst (λ (i : ℕ). take (i + 1) (branch_turns bs ++ 0 ∷ []) ≡ take i (branch_turns bs) ++ 0 ∷ []) (sym e)
    (take_more (branch_turns bs ++ 0 ∷ []) (length (branch_turns bs)) 0 (last (branch_turns bs))
    ∙ ap (λ xs. xs ++ 0 ∷ []) (front (branch_turns bs)))
  where
    last : (xs : List ℕ) → slice_get (xs ++ 0 ∷ []) (length xs) ≡ Some 0
    last [] = refl
    last (x ∷ xs) = last xs

    front : (xs : List ℕ) → take (length xs) (xs ++ 0 ∷ []) ≡ take (length xs) xs
    front [] = refl
    front (x ∷ xs) = ap (λ zs. x ∷ zs) (front xs)

pub turn_added : (bs new : List Branch) (taken : ℕ) → new ≡ bs ++ Turned First ∷ [] → taken ≡ length (branch_turns bs)
    → DecidesTurn (take taken (branch_turns bs)) (decisions_of bs) (decisions_of new) 0
turn_added bs new taken is e =
    let all : take taken (branch_turns bs) ≡ branch_turns bs = ap (λ i. take i (branch_turns bs)) e
    ∙ take-length (branch_turns bs) in
    let turns : turns_in (decisions_of bs) ≡ take taken (branch_turns bs) = turns_of_decisions bs ∙ sym all in
    turned_to turns (ap decisions_of is ∙ decisions_more bs (Turned First)
    ∙ ap (λ ns. decisions_of bs ++ turn_is (length ns) 0 ∷ []) turns)

-- so many turns are numbers of the machine
pub turns_fit : (bs : List Branch) (taken len cap : ℕ) → taken ≤ length (branch_turns bs) → len ≡ length bs → len ≤ cap
    → cap < 2 ^ 63 → taken + 1 < 2 ^ 64
turns_fit bs taken len cap h e le lt = omega (arith, turns_few bs, h, e, le, lt)
