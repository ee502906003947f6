-- The parts of a search: nothing is lost between them, and nothing stands in two.
use Rattle.std.proofs.Common.{◌≡◌, ℕ, zero, suc, ◌+◌, ◌<◌, List, [], ◌∷◌, ◌++◌, length, take, Some, refl, sym, subst, ◌∙◌, ◌⊎◌, inl, inr, ◌↔◌, true, arith, append_assoc, append-nil, slice_get}
use Rattle.std.specs.Prelude.{slice_index}
use Rattle.pv_linear.specs.declared.Literal.{Literal}
use Rattle.pv_linear.specs.Literal.{Meets, opposite}
use Rattle.pv_linear.specs.Evidence.{Evidence, HasTurns, Follows}
use Rattle.pv_linear.specs.Decisions.{Decision, fact, turn_is, Agrees, turns_in}
use Rattle.pv_linear.proofs.DecisionLemmas.{Agrees-front, Agrees-last, agreed_meets}
use Rattle.pv_linear.proofs.MeetsLemmas.{opposite_holds, opposite_denies}
use Rattle.pv_linear.proofs.Pairs.{Agrees-append-one, holds_or, kept_turn}
use Rattle.pv_path.specs.declared.branch.Turn.TheVariants.{First, Second, Third}
use Rattle.pv_path.specs.declared.branch.Branch.{Branch}
use Rattle.pv_path.specs.declared.branch.Branch.TheVariants.{Open, Closed, Turned}
use Rattle.pv_path.specs.Branches.{with_turn, decision_behind, decisions_behind, decisions_of, sides_at, sides_behind, sides_of, IsTurnedOver, branch_literals, branch_turns, Among}
use Rattle.pv_path.specs.Standing.{StandsAmong, Stands, AreApart, AllApart, IsSideOf, opposite_of, later_than, Narrowed}
use Rattle.pv_path.proofs.BranchLemmas.{decisions_more, sides_more, next_part, among_right, among_either, literals_of_decisions, turns_of_decisions, numbered_behind}
use Rattle.pv_path.proofs.PathLemmas.{meets_wider}

Agrees-none : (e : Evidence) → Agrees e []
unfolding Agrees
Agrees-none e = tt

stands_left : (e : Evidence) (xs ys : List (List Decision)) → StandsAmong e xs → StandsAmong e (xs ++ ys)
unfolding StandsAmong
stands_left e [] ys h = absurd h
stands_left e (x ∷ xs) ys (inl h) = inl h
stands_left e (x ∷ xs) ys (inr h) = inr (stands_left e xs ys h)

stands_right : (e : Evidence) (xs ys : List (List Decision)) → StandsAmong e ys → StandsAmong e (xs ++ ys)
unfolding StandsAmong
stands_right e [] ys h = h
stands_right e (x ∷ xs) ys h = inr (stands_right e xs ys h)

stands_either : (e : Evidence) (xs ys : List (List Decision)) → StandsAmong e (xs ++ ys) → StandsAmong e xs ⊎ StandsAmong e ys
unfolding StandsAmong
stands_either e [] ys h = inr h
stands_either e (x ∷ xs) ys (inl h) = inl (inl h)
stands_either e (x ∷ xs) ys (inr h) = elim (stands_either e xs ys h) [ inl k ↦ inl (inr k) | inr k ↦ inr k ]

three : (n : ℕ) → n < 3 → (n ≡ 0) ⊎ ((n ≡ 1) ⊎ (n ≡ 2))
three zero h = inl refl
three (suc zero) h = inr (inl refl)
three (suc (suc zero)) h = inr (inr refl)
three (suc (suc (suc n))) h = absurd (omega arith)

-- what agrees with the decisions before a new one agrees with that one, or stands on one of its sides
covers_literal : (e : Evidence) (ds : List Decision) (l : Literal) → Agrees e ds
    → Agrees e (ds ++ fact l ∷ []) ⊎ StandsAmong e (sides_at ds (Open l))
unfolding StandsAmong
covers_literal e ds l h = elim (holds_or e.values l true) [
  | inl k ↦ inl (Agrees-append-one e ds (fact l) h k)
  | inr k ↦ inr (inl (Agrees-append-one e ds (fact (opposite l)) h (opposite_holds e.values l k)))
]

covers_turn : (e : Evidence) (ds : List Decision) → HasTurns e → Agrees e ds
    → Agrees e (with_turn ds 0) ⊎ StandsAmong e (sides_at ds (Turned First))
unfolding StandsAmong
covers_turn e ds t h = elim (three (e.turns (length (turns_in ds))) (t (length (turns_in ds)))) [
  | inl k ↦ inl (Agrees-append-one e ds (turn_is (length (turns_in ds)) 0) h k)
  | inr (inl k) ↦ inr (inr (inl (Agrees-append-one e ds (turn_is (length (turns_in ds)) 1) h k)))
  | inr (inr k) ↦ inr (inl (Agrees-append-one e ds (turn_is (length (turns_in ds)) 2) h k))
]

-- what stands on a side of a decision agrees with those before it
within : (e : Evidence) (ds : List Decision) (b : Branch) → StandsAmong e (sides_at ds b) → Agrees e ds
unfolding StandsAmong
within e ds (Open l) (inl h) = Agrees-front e ds _ h
within e ds (Open l) (inr h) = absurd h
within e ds (Closed l) h = absurd h
within e ds (Turned First) (inl h) = Agrees-front e ds _ h
within e ds (Turned First) (inr (inl h)) = Agrees-front e ds _ h
within e ds (Turned First) (inr (inr h)) = absurd h
within e ds (Turned Second) (inl h) = Agrees-front e ds _ h
within e ds (Turned Second) (inr h) = absurd h
within e ds (Turned Third) h = absurd h

-- a branch more loses nothing, where what agreed is covered, and adds nothing
stands_more : (e : Evidence) (bs new : List Branch) (b : Branch) → new ≡ bs ++ b ∷ []
    → (Agrees e (decisions_of bs) → Agrees e (decisions_of bs ++ decision_behind (decisions_of bs) b ∷ []) ⊎ StandsAmong e
    (sides_at (decisions_of bs) b)) → Stands e bs → Stands e new
unfolding Stands StandsAmong
stands_more e bs new b is covers h = subst (Stands e) (sym is) (h.0, go h.1)
  where
    go : Agrees e (decisions_of bs) ⊎ StandsAmong e (sides_of bs)
        → Agrees e (decisions_of (bs ++ b ∷ [])) ⊎ StandsAmong e (sides_of (bs ++ b ∷ []))
    go (inl a) = elim (covers a) [
      | inl k ↦ inl (subst (Agrees e) (sym (decisions_more bs b)) k)
      | inr k ↦ inr (subst (StandsAmong e) (sym (sides_more bs b)) (stands_right e (sides_of bs) _ k))
    ]
    go (inr a) = inr (subst (StandsAmong e) (sym (sides_more bs b)) (stands_left e (sides_of bs) _ a))

pub stands_less : (e : Evidence) (bs new : List Branch) (b : Branch) → new ≡ bs ++ b ∷ [] → Stands e new → Stands e bs
unfolding Stands StandsAmong
stands_less e bs new b is h = let k : Stands e (bs ++ b ∷ []) = subst (Stands e) is h in (k.0, go k.1)
  where
    go : Agrees e (decisions_of (bs ++ b ∷ [])) ⊎ StandsAmong e (sides_of (bs ++ b ∷ []))
        → Agrees e (decisions_of bs) ⊎ StandsAmong e (sides_of bs)
    go (inl a) = inl (Agrees-front e (decisions_of bs) _ (subst (Agrees e) (decisions_more bs b) a))
    go (inr a) = elim (stands_either e (sides_of bs) (sides_at (decisions_of bs) b) (subst (StandsAmong e) (sides_more bs b) a)) [
      | inl k ↦ inr k
      | inr k ↦ inl (within e (decisions_of bs) b k)
    ]

pub stands_open : (e : Evidence) (bs new : List Branch) (l : Literal) → new ≡ bs ++ Open l ∷ [] → Stands e bs → Stands e new
stands_open e bs new l is h = stands_more e bs new (Open l) is (covers_literal e (decisions_of bs) l) h

pub stands_turn : (e : Evidence) (bs new : List Branch) → new ≡ bs ++ Turned First ∷ [] → Stands e bs → Stands e new
unfolding Stands
stands_turn e bs new is h = stands_more e bs new (Turned First) is (covers_turn e (decisions_of bs) h.0) h

-- everything with turns below 3 stands on a path on which nothing is decided
pub stands_none : (e : Evidence) (bs : List Branch) → bs ≡ [] → HasTurns e → Stands e bs
unfolding Stands StandsAmong
stands_none e bs is t = subst (Stands e) (sym is) (t, inl (Agrees-none e))

-- what agrees with all decisions agrees with the first
front_behind : (e : Evidence) (ds : List Decision) (bs : List Branch) → Agrees e (decisions_behind ds bs) → Agrees e ds
front_behind e ds [] h = h
front_behind e ds (b ∷ bs) h = Agrees-front e ds _ (front_behind e (ds ++ decision_behind ds b ∷ []) bs h)

among_stands : (e : Evidence) (parts : List (List Decision)) (p : List Decision) → Among parts p → Agrees e p
    → StandsAmong e parts
unfolding StandsAmong
among_stands e [] p h a = absurd h
among_stands e (x ∷ xs) p (inl h) a = inl (subst (Agrees e) (sym h) a)
among_stands e (x ∷ xs) p (inr h) a = inr (among_stands e xs p h a)

-- and so does what stands on an open side
side_behind : (e : Evidence) (ds : List Decision) (bs : List Branch) (p : List Decision) → Among (sides_behind ds bs) p
    → Agrees e p → Agrees e ds
side_behind e ds [] p h a = absurd h
side_behind e ds (b ∷ bs) p h a = elim (among_either (sides_at ds b) (sides_behind (ds ++ decision_behind ds b ∷ []) bs) p h) [
  | inl k ↦ within e ds b (among_stands e (sides_at ds b) p k a)
  | inr k ↦ Agrees-front e ds _ (side_behind e (ds ++ decision_behind ds b ∷ []) bs p k a)
]

-- nothing stands on a side of a decision and agrees with it
off_side : (e : Evidence) (ds : List Decision) (b : Branch) → StandsAmong e (sides_at ds b)
    → Agrees e (ds ++ decision_behind ds b ∷ []) → ⊥
unfolding StandsAmong
off_side e ds (Open l) (inl h) a = opposite_denies e.values l (Agrees-last e ds _ h) (Agrees-last e ds _ a)
off_side e ds (Open l) (inr h) a = h
off_side e ds (Closed l) h a = h
off_side e ds (Turned First) (inl h) a = let x = Agrees-last e ds _ h in let y = Agrees-last e ds _ a in omega (arith, x, y)
off_side e ds (Turned First) (inr (inl h)) a = let x = Agrees-last e ds _ h in let y = Agrees-last e ds _ a in omega (arith, x, y)
off_side e ds (Turned First) (inr (inr h)) a = h
off_side e ds (Turned Second) (inl h) a = let x = Agrees-last e ds _ h in let y = Agrees-last e ds _ a in omega (arith, x, y)
off_side e ds (Turned Second) (inr h) a = h
off_side e ds (Turned Third) h a = h

-- the sides of one decision are apart
sides_apart : (ds : List Decision) (b : Branch) → AllApart (sides_at ds b)
sides_apart ds (Open l) = ((λ es h. absurd h), tt)
sides_apart ds (Closed l) = tt
sides_apart ds (Turned First) = (first, ((λ es h. absurd h), tt))
  where
    first : (es : List Decision) → Among (with_turn ds 1 ∷ []) es → AreApart (with_turn ds 2) es
    first es (inl h) e a b = let x = Agrees-last e ds _ a in let y = Agrees-last e ds _ (subst (Agrees e) (sym h) b) in
        omega (arith, x, y)
    first es (inr h) e a b = h
sides_apart ds (Turned Second) = ((λ es h. absurd h), tt)
sides_apart ds (Turned Third) = tt

apart_append : (xs ys : List (List Decision)) → AllApart xs → AllApart ys
    → ((x y : List Decision) → Among xs x → Among ys y → AreApart x y) → AllApart (xs ++ ys)
apart_append [] ys h k cross = k
apart_append (x ∷ xs) ys h k cross = (
  (λ es m. elim (among_either xs ys es m) [ inl a ↦ h.0 es a | inr a ↦ cross x es (inl refl) a ]),
  apart_append xs ys h.1 k (λ u w a b. cross u w (inr a) b),
)

apart_from : (ds : List Decision) (b : Branch) (bs : List Branch)
    → AllApart (decisions_behind (ds ++ decision_behind ds b ∷ []) bs ∷ sides_behind (ds ++ decision_behind ds b ∷ []) bs)
    → AllApart (decisions_behind ds (b ∷ bs) ∷ sides_behind ds (b ∷ bs))
apart_from ds b bs later = (
  path,
  apart_append (sides_at ds b) (sides_behind (ds ++ decision_behind ds b ∷ []) bs)
      (sides_apart ds b) later.1 cross,
)
  where
    path : (es : List Decision) → Among (sides_at ds b ++ sides_behind (ds ++ decision_behind ds b ∷ []) bs) es
        → AreApart (decisions_behind (ds ++ decision_behind ds b ∷ []) bs) es
    path es h e x y = elim (among_either (sides_at ds b) (sides_behind (ds ++ decision_behind ds b ∷ []) bs) es h) [
      | inl k ↦ off_side e ds b (among_stands e (sides_at ds b) es k y) (front_behind e (ds ++ decision_behind ds b ∷ []) bs x)
      | inr k ↦ later.0 es k e x y
    ]

    cross : (u w : List Decision) → Among (sides_at ds b) u → Among (sides_behind (ds ++ decision_behind ds b ∷ []) bs) w
        → AreApart u w
    cross u w h k e x y = off_side e ds b (among_stands e (sides_at ds b) u h x)
        (side_behind e (ds ++ decision_behind ds b ∷ []) bs w k y)

-- nothing stands in two parts
pub parts_apart : (ds : List Decision) (bs : List Branch) → AllApart (decisions_behind ds bs ∷ sides_behind ds bs)
parts_apart ds [] = ((λ es h. absurd h), tt)
parts_apart ds (b ∷ bs) = apart_from ds b bs (parts_apart (ds ++ decision_behind ds b ∷ []) bs)

off_parts : (e : Evidence) (parts : List (List Decision)) (ds : List Decision)
    → ((es : List Decision) → Among parts es → AreApart ds es) → Agrees e ds → StandsAmong e parts → ⊥
unfolding StandsAmong
off_parts e [] ds h a s = s
off_parts e (p ∷ ps) ds h a (inl s) = h p (inl refl) e a s
off_parts e (p ∷ ps) ds h a (inr s) = off_parts e ps ds (λ es m. h es (inr m)) a s

-- after a path was turned over there stands what stood before, without what stood on it
pub stands_over : (e : Evidence) (old new : List Branch) → IsTurnedOver old new
    → Stands e new ↔ (Stands e old × (Agrees e (decisions_of old) → ⊥))
unfolding Stands StandsAmong
stands_over e old new o = (
  (λ h. ((h.0, inr (back h.1)), λ a. off_parts e (sides_of old) (decisions_of old) (parts_apart [] old).0 a (back h.1))),
  λ h.
      (h.0.0, on h.0.1 h.1),
)
  where
    back : Agrees e (decisions_of new) ⊎ StandsAmong e (sides_of new) → StandsAmong e (sides_of old)
    back (inl a) = subst (StandsAmong e) (sym (next_part old new o)) (stands_right e (sides_of new) _ (inl a))
    back (inr a) = subst (StandsAmong e) (sym (next_part old new o)) (stands_left e (sides_of new) _ a)

    on : Agrees e (decisions_of old) ⊎ StandsAmong e (sides_of old) → (Agrees e (decisions_of old) → ⊥)
        → Agrees e (decisions_of new) ⊎ StandsAmong e (sides_of new)
    on (inl a) n = absurd (n a)
    on (inr a) n = elim (stands_either e (sides_of new) (decisions_of new ∷ []) (subst (StandsAmong e) (next_part old new o) a)) [
      | inl k ↦ inr k
      | inr (inl k) ↦ inl k
      | inr (inr k) ↦ absurd k
    ]

-- what agrees with the decisions follows the path, whatever turns were taken
take_index : (xs : List ℕ) (t k : ℕ) → k < length (take t xs) → slice_get xs k ≡ Some (slice_index (take t xs) k)
take_index [] zero k lt = absurd (omega arith)
take_index [] (suc t) k lt = absurd (omega arith)
take_index (x ∷ xs) zero k lt = absurd (omega arith)
take_index (x ∷ xs) (suc t) zero lt = refl
take_index (x ∷ xs) (suc t) (suc k) lt = take_index xs t k (omega arith)

pub agrees_follows : (e : Evidence) (bs : List Branch) (path : List Literal) (taken : ℕ) → ∥ Narrowed path (branch_literals bs) ∥₁
    → Agrees e (decisions_of bs) → Follows path (take taken (branch_turns bs)) e
unfolding Follows
agrees_follows e bs path taken n a = (
  meets_wider e.values path (branch_literals bs) n
      (subst (Meets e.values) (literals_of_decisions bs) (agreed_meets e (decisions_of bs) a)),
  λ k lt. let z : 0 + k ≡ k = omega arith in sym
      (subst (λ (i : ℕ). e.turns i ≡ slice_index (take taken (branch_turns bs)) k) z
      (kept_turn e (decisions_of bs) 0 k _ (numbered_behind [] bs tt) a
      (subst (λ (ns : List ℕ). slice_get ns k ≡ Some (slice_index (take taken (branch_turns bs)) k)) (sym (turns_of_decisions bs))
      (take_index (branch_turns bs) taken k lt)))),
)

-- what is added behind decisions
behind : (ds : List Decision) (bs : List Branch) → (ys : List Decision) × (decisions_behind ds bs ≡ ds ++ ys)
behind ds [] = ([], sym (append-nil ds))
behind ds (b ∷ bs) = let r = behind (ds ++ decision_behind ds b ∷ []) bs in
    (decision_behind ds b ∷ r.0, r.1 ∙ append_assoc ds (decision_behind ds b ∷ []) r.0)

side_at : (ds : List Decision) (b : Branch) (ys all part : List Decision) → all ≡ ds ++ decision_behind ds b ∷ ys
    → Among (sides_at ds b) part → IsSideOf all part
side_at ds (Open l) ys all part e (inl h) = opposite_of ds ys l e (sym h)
side_at ds (Open l) ys all part e (inr h) = absurd h
side_at ds (Closed l) ys all part e h = absurd h
side_at ds (Turned First) ys all part e (inl h) =
    later_than ds ys (length (turns_in ds)) 0 2 e (omega arith) (omega arith) (sym h)
side_at ds (Turned First) ys all part e (inr (inl h)) =
    later_than ds ys (length (turns_in ds)) 0 1 e (omega arith) (omega arith) (sym h)
side_at ds (Turned First) ys all part e (inr (inr h)) = absurd h
side_at ds (Turned Second) ys all part e (inl h) =
    later_than ds ys (length (turns_in ds)) 1 2 e (omega arith) (omega arith) (sym h)
side_at ds (Turned Second) ys all part e (inr h) = absurd h
side_at ds (Turned Third) ys all part e h = absurd h

-- each open side leaves the decisions at one of them
pub side_of : (ds : List Decision) (bs : List Branch) (part : List Decision) → Among (sides_behind ds bs) part
    → IsSideOf (decisions_behind ds bs) part
side_of ds [] part h = absurd h
side_of ds (b ∷ bs) part h = elim (among_either (sides_at ds b) (sides_behind (ds ++ decision_behind ds b ∷ []) bs) part h) [
  | inl k ↦ (let q = behind (ds ++ decision_behind ds b ∷ []) bs in
      side_at ds b q.0 _ part (q.1 ∙ append_assoc ds (decision_behind ds b ∷ []) q.0) k)
  | inr k ↦ side_of (ds ++ decision_behind ds b ∷ []) bs part k
]

-- the next path is a side of the one before
pub next_side_of : (old new : List Branch) → IsTurnedOver old new → IsSideOf (decisions_of old) (decisions_of new)
next_side_of old new o = side_of [] old (decisions_of new)
    (subst (λ (ps : List (List Decision)). Among ps (decisions_of new)) (sym (next_part old new o))
    (among_right (sides_of new) (decisions_of new ∷ []) (decisions_of new) (inl refl)))
