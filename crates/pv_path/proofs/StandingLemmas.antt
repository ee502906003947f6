-- What stands in the parts.
use Rattle.std.proofs.Common.{◌≡◌, ℕ, zero, suc, pos, ◌-ℤ◌, ◌<◌, ◌≤◌, List, [], ◌∷◌, ◌++◌, length, take, Some, Bool, true, false, cond, refl, ap, sym, subst, ◌∙◌, ◌⊎◌, inl, inr, arith, append-nil, slice_get}
use Rattle.std.proofs.Math.Logic.{∥∥₁_map}
use Rattle.std.proofs.Math.Seq.{take-append_seam}
use Rattle.std.proofs.lemmas.Int.{ints}
use Rattle.pv_linear.specs.declared.Literal.{Literal}
use Rattle.pv_linear.specs.declared.Literal.TheVariants.{AtMost, Same, Differ}
use Rattle.pv_linear.specs.Literal.{opposite, IsBounded, bound_of_all}
use Rattle.pv_linear.specs.Evidence.{evidence_of, CanBeMet}
use Rattle.pv_linear.specs.Decisions.{Decision, fact, turn_is, AllBelow, turns_in, literals_in, AreNumbered}
use Rattle.pv_linear.proofs.DecisionLemmas.{AllBelow-more, meets_agrees, agreed_meets}
use Rattle.pv_linear.proofs.MeetsLemmas.{Meets-left}
use Rattle.pv_linear.proofs.Bounds.{bound_of_bounded, bound_of_all-append}
use Rattle.pv_path.specs.declared.branch.Turn.{Turn}
use Rattle.pv_path.specs.declared.branch.Turn.TheVariants.{First, Second, Third}
use Rattle.pv_path.specs.declared.branch.Branch.{Branch}
use Rattle.pv_path.specs.declared.branch.Branch.TheVariants.{Open, Closed, Turned}
use Rattle.pv_path.specs.Branches.{turn_number, with_turn, decision_behind, decisions_of, sides_at, sides_of, parts_of, IsTurnedOver, branch_literals, branch_turns, Among}
use Rattle.pv_path.specs.Standing.{CanStand, AreUndecided, IsOpen, span_of}
use Rattle.pv_path.proofs.BranchLemmas.{literals_in-append, turns_in-append, literals_of_decisions, turns_of_decisions, AreNumbered-fact, AreNumbered-turn, numbered_behind, decisions_more, sides_more, among_left, among_right, among_either, next_part, branch_literals-append, span_of-append}

turn_below : (t : Turn) → turn_number t < 3
turn_below First = omega arith
turn_below Second = omega arith
turn_below Third = omega arith

pub turns_below : (bs : List Branch) → AllBelow (branch_turns bs)
turns_below [] k = omega arith
turns_below (Open l ∷ bs) k = turns_below bs k
turns_below (Closed l ∷ bs) k = turns_below bs k
turns_below (Turned t ∷ bs) zero = turn_below t
turns_below (Turned t ∷ bs) (suc k) = turns_below bs k

-- something stands where the literals can be met
pub stands_where_met : (ds : List Decision) → AreNumbered 0 ds → AllBelow (turns_in ds) → CanBeMet (literals_in ds) → CanStand ds
stands_where_met ds a b met = ∥∥₁_map met (λ s. record {
  values = s.values;
  turns = turns_in ds;
  below = b;
  agrees = meets_agrees s.values ds a s.meets;
})

pub met_where_stands : (ds : List Decision) → CanStand ds → CanBeMet (literals_in ds)
met_where_stands ds h =
    ∥∥₁_map h (λ s. record { values = s.values; meets = agreed_meets (evidence_of s.values s.turns) ds s.agrees })

-- the literals of a path can be met where something stands on it
pub met_of_possible : (bs : List Branch) → ((part : List Decision) → Among (parts_of bs) part → CanStand part)
    → CanBeMet (branch_literals bs)
met_of_possible bs h = subst CanBeMet (literals_of_decisions bs)
    (met_where_stands (decisions_of bs) (h (decisions_of bs) (inl refl)))

pub met_front : (xs ys : List Literal) → CanBeMet (xs ++ ys) → CanBeMet xs
met_front xs ys h = ∥∥₁_map h (λ s. record { values = s.values; meets = Meets-left s.values xs ys s.meets })

fact_stands : (bs : List Branch) (l : Literal) → CanBeMet (branch_literals bs ++ l ∷ [])
    → CanStand (decisions_of bs ++ fact l ∷ [])
fact_stands bs l met = stands_where_met (decisions_of bs ++ fact l ∷ [])
    (AreNumbered-fact 0 (decisions_of bs) l (numbered_behind [] bs tt))
    (subst AllBelow (sym (turns_in-append (decisions_of bs) (fact l ∷ []) ∙ append-nil (turns_in (decisions_of bs))
    ∙ turns_of_decisions bs)) (turns_below bs))
    (subst CanBeMet (ap (λ ls. ls ++ l ∷ []) (sym (literals_of_decisions bs))
    ∙ sym (literals_in-append (decisions_of bs) (fact l ∷ []))) met)

turn_stands : (bs : List Branch) (n : ℕ) → n < 3 → CanBeMet (branch_literals bs) → CanStand (with_turn (decisions_of bs) n)
turn_stands bs n lt met =
    let ds : List Decision = decisions_of bs in
    let d : Decision = turn_is (length (turns_in ds)) n in
    stands_where_met (ds ++ d ∷ [])
    (AreNumbered-turn 0 ds (length (turns_in ds)) n (omega arith) (numbered_behind [] bs tt))
    (subst AllBelow (sym (turns_in-append ds (d ∷ []) ∙ ap (λ ns. ns ++ n ∷ []) (turns_of_decisions bs)))
    (AllBelow-more (branch_turns bs) n (turns_below bs) lt))
    (subst CanBeMet (sym (literals_in-append ds (d ∷ []) ∙ append-nil (literals_in ds) ∙ literals_of_decisions bs)) met)

-- something stands in each part after one more branch, where it does in the new parts
possible_more : (bs : List Branch) (b : Branch) → ((part : List Decision) → Among (parts_of bs) part → CanStand part)
    → CanStand (decisions_of bs ++ decision_behind (decisions_of bs) b ∷ [])
    → ((part : List Decision) → Among (sides_at (decisions_of bs) b) part → CanStand part)
    → (part : List Decision) → Among (parts_of (bs ++ b ∷ [])) part → CanStand part
possible_more bs b old path sides part (inl e) = subst CanStand (sym (decisions_more bs b) ∙ e) path
possible_more bs b old path sides part (inr h) =
    elim (among_either (sides_of bs) (sides_at (decisions_of bs) b) part
    (subst (λ (ps : List (List Decision)). Among ps part) (sides_more bs b) h)) [
      | inl k ↦ old part (inr k)
      | inr k ↦ sides part k
    ]

pub possible_open : (bs new : List Branch) (l : Literal) → new ≡ bs ++ Open l ∷ []
    → ((part : List Decision) → Among (parts_of bs) part → CanStand part) → IsOpen (branch_literals bs) l → (part : List Decision)
    → Among (parts_of new) part → CanStand part
possible_open bs new l is old both part h = possible_more bs (Open l) old (fact_stands bs l both.0) side part
    (subst (λ (cs : List Branch). Among (parts_of cs) part) is h)
  where
    side : (part : List Decision) → Among (sides_at (decisions_of bs) (Open l)) part → CanStand part
    side part (inl e) = subst CanStand e (fact_stands bs (opposite l) both.1)
    side part (inr k) = absurd k

pub possible_turn : (bs new : List Branch) → new ≡ bs ++ Turned First ∷ []
    → ((part : List Decision) → Among (parts_of bs) part → CanStand part) → (part : List Decision) → Among (parts_of new) part
    → CanStand part
possible_turn bs new is old part h = possible_more bs (Turned First) old (turn_stands bs 0 (omega arith) met) side part
    (subst (λ (cs : List Branch). Among (parts_of cs) part) is h)
  where
    met : CanBeMet (branch_literals bs)
    met = met_of_possible bs old

    side : (part : List Decision) → Among (sides_at (decisions_of bs) (Turned First)) part → CanStand part
    side part (inl e) = subst CanStand e (turn_stands bs 2 (omega arith) met)
    side part (inr (inl e)) = subst CanStand e (turn_stands bs 1 (omega arith) met)
    side part (inr (inr k)) = absurd k

-- the parts after a path was turned over were parts before
pub possible_over : (old new : List Branch) → IsTurnedOver old new
    → ((part : List Decision) → Among (parts_of old) part → CanStand part) → (part : List Decision) → Among (parts_of new) part
    → CanStand part
possible_over old new o h part (inl e) = h part
    (inr (subst (λ (ps : List (List Decision)). Among ps part) (sym (next_part old new o))
    (among_right (sides_of new) _ part (inl e))))
possible_over old new o h part (inr k) = h part
    (inr (subst (λ (ps : List (List Decision)). Among ps part) (sym (next_part old new o)) (among_left (sides_of new) _ part k)))

-- the member at a place of a list with one more
get_more : {A : Type 0} (xs : List A) (x : A) (k : ℕ) (y : A) → slice_get (xs ++ x ∷ []) k ≡ Some y
    → (slice_get xs k ≡ Some y) ⊎ ((k ≡ length xs) × (x ≡ y))
get_more [] x zero y h = inr (refl, cc h)
get_more [] x (suc k) y h = cc h
get_more (z ∷ xs) x zero y h = inl h
get_more (z ∷ xs) x (suc k) y h = elim (get_more xs x k y h) [ inl g ↦ inl g | inr g ↦ inr (ap suc g.0, g.1) ]

take_front : {A : Type 0} (xs ys : List A) (k : ℕ) (x : A) → slice_get xs k ≡ Some x → take k (xs ++ ys) ≡ take k xs
take_front [] ys k x h = cc h
take_front (z ∷ xs) ys zero x h = refl
take_front (z ∷ xs) ys (suc k) x h = ap (λ zs. z ∷ zs) (take_front xs ys k x h)

get_front : {A : Type 0} (xs ys : List A) (k : ℕ) (x : A) → slice_get xs k ≡ Some x → slice_get (xs ++ ys) k ≡ Some x
get_front [] ys k x h = cc h
get_front (z ∷ xs) ys zero x h = h
get_front (z ∷ xs) ys (suc k) x h = get_front xs ys k x h

-- undecided literals, with one more, and the first of them
pub undecided_more : (ls new : List Literal) (l : Literal) → new ≡ ls ++ l ∷ [] → AreUndecided ls
    → CanBeMet (ls ++ opposite l ∷ []) → AreUndecided new
undecided_more ls new l is old met k m h = elim
    (get_more ls l k m (subst (λ (zs : List Literal). slice_get zs k ≡ Some m) is h)) [
      | inl g ↦ subst (λ (zs : List Literal). CanBeMet (zs ++ opposite m ∷ []))
          (sym (ap (λ zs. take k zs) is ∙ take_front ls (l ∷ []) k m g)) (old k m g)
      | inr g ↦ subst (λ (zs : List Literal). CanBeMet (zs ++ opposite m ∷ []))
          (sym (ap (λ zs. take k zs) is ∙ subst (λ (i : ℕ). take i (ls ++ l ∷ []) ≡ ls) (sym g.0) (take-append_seam ls (l ∷ []))))
          (subst (λ (q : Literal). CanBeMet (ls ++ opposite q ∷ [])) g.1 met)
    ]

pub undecided_front : (xs ys : List Literal) → AreUndecided (xs ++ ys) → AreUndecided xs
undecided_front xs ys h k l g = subst (λ (zs : List Literal). CanBeMet (zs ++ opposite l ∷ [])) (take_front xs ys k l g)
    (h k l (get_front xs ys k l g))

-- the opposite of the opposite is the literal
pub opposite_twice : (l : Literal) → opposite (opposite l) ≡ l
opposite_twice (AtMost x y c) = let e : pos 0 -ℤ (pos 0 -ℤ c -ℤ pos 1) -ℤ pos 1 ≡ c = omega (arith, ints) in
    ap (λ z. AtMost x y z) e
opposite_twice (Same x y) = refl
opposite_twice (Differ x y) = refl

pub bound_within : (ls : List Literal) → bound_of_all ls ≤ span_of ls
bound_within [] = omega arith
bound_within (l ∷ ls) = omega (arith, bound_within ls)

pub bound_asked : (ls : List Literal) (l : Literal) (n : ℕ) → span_of ls ≤ n → IsBounded n l → bound_of_all (ls ++ l ∷ []) ≤ n
bound_asked ls l n h k = omega (arith, bound_of_all-append ls (l ∷ []), bound_of_bounded n l k, bound_within ls)

pub span_more : (ls new : List Literal) (l : Literal) (n : ℕ) → new ≡ ls ++ l ∷ [] → span_of ls ≤ n → IsBounded n l
    → IsBounded n (opposite l) → span_of new ≤ n
span_more ls new l n is h k o =
    rw is (omega (arith, span_of-append ls (l ∷ []), bound_of_bounded n l k, bound_of_bounded n (opposite l) o))

-- nothing is decided
pub possible_none : (bs : List Branch) → bs ≡ [] → (part : List Decision) → Among (parts_of bs) part → CanStand part
possible_none bs is part h = elim (subst (λ (cs : List Branch). Among (parts_of cs) part) is h) [
  | inl e ↦ subst CanStand e (stands_where_met [] tt (λ k. omega arith) ∣ record { values = λ _. pos 0; meets = tt } ∣₁)
  | inr k ↦ absurd k
]

pub undecided_none : (ls : List Literal) → ls ≡ [] → AreUndecided ls
undecided_none ls is k l h = absurd (none k (subst (λ (zs : List Literal). slice_get zs k ≡ Some l) is h))
  where
    none : (k : ℕ) → slice_get {X = Literal} [] k ≡ Some l → ⊥
    none k h = cc h

-- the branches after a push that may have failed
pub possible_either : (b : Bool) (bs new : List Branch) → new ≡ cond b (bs ++ Turned First ∷ []) bs
    → ((part : List Decision) → Among (parts_of bs) part → CanStand part) → (part : List Decision) → Among (parts_of new) part
    → CanStand part
possible_either true bs new is old part h = possible_turn bs new is old part h
possible_either false bs new is old part h = old part (subst (λ (cs : List Branch). Among (parts_of cs) part) is h)

pub literals_either : (b : Bool) (bs new : List Branch) → new ≡ cond b (bs ++ Turned First ∷ []) bs → branch_literals new
    ≡ branch_literals bs
literals_either true bs new is = ap branch_literals is ∙ branch_literals-append bs (Turned First ∷ [])
    ∙ append-nil (branch_literals bs)
literals_either false bs new is = ap branch_literals is
