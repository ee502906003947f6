-- Branches, their decisions and their open sides.
use Rattle.std.proofs.Common.{◌≡◌, ℕ, zero, suc, ◌+◌, ◌-◌, ◌<◌, ◌≤◌, List, [], ◌∷◌, ◌++◌, length, take, drop, Some, None, refl, ap, sym, subst, ◌∙◌, ◌⊎◌, inl, inr, arith, append_assoc, append-nil, add-one, slice_get}
use Rattle.std.specs.Prelude.{slice_set, slice_index_or, max}
use Rattle.pv_linear.specs.declared.Literal.{Literal}
use Rattle.pv_linear.specs.Literal.{opposite}
use Rattle.pv_linear.specs.Decisions.{Decision, fact, literals_in}
use Rattle.pv_path.specs.declared.branch.Turn.TheVariants.{First, Second, Third}
use Rattle.pv_path.specs.declared.branch.Branch.{Branch}
use Rattle.pv_path.specs.declared.branch.Branch.TheVariants.{Open, Closed, Turned}
use Rattle.pv_path.specs.Branches.{turn_number, decision_behind, decisions_behind, decisions_of, sides_at, sides_behind, sides_of, turned_over, AllClosed, IsTurnedOver, IsNextSide, branch_literals, branch_turns, Among}
use Rattle.pv_path.specs.Standing.{span_of}
pub use Rattle.pv_linear.proofs.DecisionLemmas.{literals_in-append}
pub use Rattle.pv_path.specs.Taking.{turns_in-append, turns_of_decisions, AreNumbered-fact, AreNumbered-turn, numbered_behind}

-- a member that is put last
pub cut_at : {A : Type 0} (xs : List A) (i : ℕ) (y : A) → i < length xs → slice_set (take (i + 1) xs) i y ≡ take i xs ++ y ∷ []
cut_at {A = A} xs i y lt = rw add-one (go xs i lt)
  where
    go : (xs : List A) (i : ℕ) → i < length xs → slice_set (take (suc i) xs) i y ≡ take i xs ++ y ∷ []
    go [] i lt = absurd (omega arith)
    go (x ∷ xs) zero lt = refl
    go (x ∷ xs) (suc i) lt = ap (λ zs. x ∷ zs) (go xs i (omega arith))

-- a list is what stands before a place, what stands there, and the rest
pub split_at : {A : Type 0} (xs : List A) (i : ℕ) (x : A) → slice_get xs i ≡ Some x → xs ≡ take i xs ++ x ∷ drop (suc i) xs
split_at [] i x h = cc h
split_at (y ∷ ys) zero x h = let e : y ≡ x = cc h in ap (λ z. z ∷ ys) e
split_at (y ∷ ys) (suc i) x h = ap (λ zs. y ∷ zs) (split_at ys i x h)

pub branch_literals-append : (xs ys : List Branch) → branch_literals (xs ++ ys) ≡ branch_literals xs ++ branch_literals ys
branch_literals-append [] ys = refl
branch_literals-append (Open l ∷ xs) ys = ap (λ ls. l ∷ ls) (branch_literals-append xs ys)
branch_literals-append (Closed l ∷ xs) ys = ap (λ ls. l ∷ ls) (branch_literals-append xs ys)
branch_literals-append (Turned t ∷ xs) ys = branch_literals-append xs ys

pub decisions_behind-append : (ds : List Decision) (xs ys : List Branch) → decisions_behind ds (xs ++ ys)
    ≡ decisions_behind (decisions_behind ds xs) ys
decisions_behind-append ds [] ys = refl
decisions_behind-append ds (x ∷ xs) ys = decisions_behind-append (ds ++ decision_behind ds x ∷ []) xs ys

pub sides_behind-append : (ds : List Decision) (xs ys : List Branch) → sides_behind ds (xs ++ ys) ≡ sides_behind ds xs
    ++ sides_behind (decisions_behind ds xs) ys
sides_behind-append ds [] ys = refl
sides_behind-append ds (x ∷ xs) ys =
    let es : List Decision = ds ++ decision_behind ds x ∷ [] in
    ap (λ ps. sides_at ds x ++ ps) (sides_behind-append es xs ys)
    ∙ sym (append_assoc (sides_at ds x) (sides_behind es xs) (sides_behind (decisions_behind es xs) ys))

-- the literals of the decisions are those of the branches
pub literals_behind : (ds : List Decision) (bs : List Branch) → literals_in (decisions_behind ds bs) ≡ literals_in ds
    ++ branch_literals bs
literals_behind ds [] = sym (append-nil (literals_in ds))
literals_behind ds (Open l ∷ bs) = literals_behind (ds ++ fact l ∷ []) bs
    ∙ ap (λ ls. ls ++ branch_literals bs) (literals_in-append ds (fact l ∷ []))
    ∙ append_assoc (literals_in ds) (l ∷ []) (branch_literals bs)
literals_behind ds (Closed l ∷ bs) = literals_behind (ds ++ fact l ∷ []) bs
    ∙ ap (λ ls. ls ++ branch_literals bs) (literals_in-append ds (fact l ∷ []))
    ∙ append_assoc (literals_in ds) (l ∷ []) (branch_literals bs)
literals_behind ds (Turned t ∷ bs) = literals_behind (ds ++ decision_behind ds (Turned t) ∷ []) bs
    ∙ ap (λ ls. ls ++ branch_literals bs) (literals_in-append ds (decision_behind ds (Turned t) ∷ [])
    ∙ append-nil (literals_in ds))

pub literals_of_decisions : (bs : List Branch) → literals_in (decisions_of bs) ≡ branch_literals bs
literals_of_decisions bs = literals_behind [] bs

-- where no branch has an open side, there is none
sides_none : (ds : List Decision) (b : Branch) → turned_over b ≡ None → sides_at ds b ≡ []
sides_none ds (Open l) h = cc h
sides_none ds (Closed l) h = refl
sides_none ds (Turned First) h = cc h
sides_none ds (Turned Second) h = cc h
sides_none ds (Turned Third) h = refl

pub closed_sides : (ds : List Decision) (bs : List Branch) → AllClosed bs → sides_behind ds bs ≡ []
closed_sides ds [] h = refl
closed_sides ds (b ∷ bs) h = rw (sides_none ds b h.0) (closed_sides _ bs h.1)

-- the next side is the last one
side_over : (ds : List Decision) (b other : Branch) → turned_over b ≡ Some other → sides_at ds b ≡ sides_at ds other
    ++ (ds ++ decision_behind ds other ∷ []) ∷ []
side_over ds (Open l) other h = let e : Closed (opposite l) ≡ other = cc h in
    subst (λ (o : Branch). sides_at ds (Open l) ≡ sides_at ds o ++ (ds ++ decision_behind ds o ∷ []) ∷ []) e refl
side_over ds (Closed l) other h = cc h
side_over ds (Turned First) other h = let e : Turned Second ≡ other = cc h in
    subst (λ (o : Branch). sides_at ds (Turned First) ≡ sides_at ds o ++ (ds ++ decision_behind ds o ∷ []) ∷ []) e refl
side_over ds (Turned Second) other h = let e : Turned Third ≡ other = cc h in
    subst (λ (o : Branch). sides_at ds (Turned Second) ≡ sides_at ds o ++ (ds ++ decision_behind ds o ∷ []) ∷ []) e refl
side_over ds (Turned Third) other h = cc h

-- after the turn the path is what was the last open side, and the others are still open
pub next_part : (old new : List Branch) → IsTurnedOver old new → sides_of old ≡ sides_of new ++ decisions_of new ∷ []
next_part old new o =
    ap sides_of o.were
    ∙ sides_behind-append [] o.kept (o.last ∷ o.gone)
    ∙ ap (λ ps. sides_of o.kept ++ ps) (ap (λ ps. sides_at (decisions_of o.kept) o.last ++ ps) (closed_sides _ o.gone o.closed)
    ∙ append-nil _ ∙ side_over (decisions_of o.kept) o.last o.other o.over)
    ∙ sym (append_assoc (sides_of o.kept) (sides_at (decisions_of o.kept) o.other) _)
    ∙ ap (λ ps. ps ++ (decisions_of o.kept ++ decision_behind (decisions_of o.kept) o.other ∷ []) ∷ [])
    (ap (λ ps. sides_of o.kept ++ ps) (sym (append-nil _)) ∙ sym (sides_behind-append [] o.kept (o.other ∷ []))
    ∙ ap sides_of (sym o.are))
    ∙ ap (λ ds. sides_of new ++ ds ∷ []) (sym (decisions_behind-append [] o.kept (o.other ∷ [])) ∙ ap decisions_of (sym o.are))

-- the next side of a path, and what the path is on it
pub over_next : (bs : List Branch) (place : ℕ) (other : Branch) → IsNextSide bs place other
    → IsTurnedOver bs (take place bs ++ other ∷ [])
over_next bs place other n = record {
  kept = take place bs;
  last = n.last;
  other = other;
  gone = drop (suc place) bs;
  were = split_at bs place n.last n.there;
  closed = n.closed;
  over = n.over;
  are = refl;
}

-- a branch more
pub decisions_more : (bs : List Branch) (b : Branch) → decisions_of (bs ++ b ∷ []) ≡ decisions_of bs
    ++ decision_behind (decisions_of bs) b ∷ []
decisions_more bs b = decisions_behind-append [] bs (b ∷ [])

pub sides_more : (bs : List Branch) (b : Branch) → sides_of (bs ++ b ∷ []) ≡ sides_of bs ++ sides_at (decisions_of bs) b
sides_more bs b = sides_behind-append [] bs (b ∷ []) ∙ ap (λ ps. sides_of bs ++ ps) (append-nil (sides_at (decisions_of bs) b))

-- the members of lists
pub among_left : {A : Type 0} (xs ys : List A) (x : A) → Among xs x → Among (xs ++ ys) x
among_left [] ys x h = absurd h
among_left (a ∷ xs) ys x (inl h) = inl h
among_left (a ∷ xs) ys x (inr h) = inr (among_left xs ys x h)

pub among_right : {A : Type 0} (xs ys : List A) (x : A) → Among ys x → Among (xs ++ ys) x
among_right [] ys x h = h
among_right (a ∷ xs) ys x h = inr (among_right xs ys x h)

pub among_either : {A : Type 0} (xs ys : List A) (x : A) → Among (xs ++ ys) x → Among xs x ⊎ Among ys x
among_either [] ys x h = inr h
among_either (a ∷ xs) ys x (inl h) = inl (inl h)
among_either (a ∷ xs) ys x (inr h) = elim (among_either xs ys x h) [ inl k ↦ inl (inr k) | inr k ↦ inr k ]

-- how far the bounds of lists of literals are from zero
pub span_of-append : (xs ys : List Literal) → span_of (xs ++ ys) ≡ max (span_of xs) (span_of ys)
span_of-append [] ys = omega arith
span_of-append (x ∷ xs) ys = omega (arith, span_of-append xs ys)

-- the bound of one branch
pub span_at : (bs : List Branch) (i : ℕ) (d : Branch) → i < length bs
    → span_of (branch_literals (slice_index_or bs i d ∷ [])) ≤ span_of (branch_literals bs)
span_at [] i d lt = absurd (omega arith)
span_at (b ∷ bs) zero d lt = rw (
  branch_literals-append (b ∷ []) bs,
  span_of-append (branch_literals (b ∷ [])) (branch_literals bs),
) (omega arith)
span_at (b ∷ bs) (suc i) d lt = let h = span_at bs i d (omega arith) in
    rw (branch_literals-append (b ∷ []) bs, span_of-append (branch_literals (b ∷ [])) (branch_literals bs)) (omega (arith, h))

-- the member at a place
pub get_at : {A : Type 0} (xs : List A) (i : ℕ) (d : A) → i < length xs → slice_get xs i ≡ Some (slice_index_or xs i d)
get_at [] i d lt = absurd (omega arith)
get_at (x ∷ xs) zero d lt = refl
get_at (x ∷ xs) (suc i) d lt = get_at xs i d (omega arith)

pub next_at : (bs : List Branch) (n : ℕ) (d other : Branch) → 0 < n → n ≤ length bs → turned_over (slice_index_or bs (n - 1) d)
    ≡ Some other → AllClosed (drop n bs) → IsNextSide bs (n - 1) other
next_at bs n d other some within over closed = let e : suc (n - 1) ≡ n = omega (arith, some) in record {
  last = slice_index_or bs (n - 1) d;
  there = get_at bs (n - 1) d (omega (arith, some, within));
  over = over;
  closed = subst (λ (k : ℕ). AllClosed (drop k bs)) (sym e) closed;
}

pub span_within : (bs : List Branch) (i : ℕ) (d : Branch) (n : ℕ) → i < length bs → span_of (branch_literals bs) ≤ n
    → span_of (branch_literals (slice_index_or bs i d ∷ [])) ≤ n
span_within bs i d n lt h = omega (arith, span_at bs i d lt, h)

-- a literal is no turn
pub branch_turns-append : (xs ys : List Branch) → branch_turns (xs ++ ys) ≡ branch_turns xs ++ branch_turns ys
branch_turns-append [] ys = refl
branch_turns-append (Open l ∷ xs) ys = branch_turns-append xs ys
branch_turns-append (Closed l ∷ xs) ys = branch_turns-append xs ys
branch_turns-append (Turned t ∷ xs) ys = ap (λ ns. turn_number t ∷ ns) (branch_turns-append xs ys)

pub branch_turns-fact : (bs new : List Branch) (l : Literal) → new ≡ bs ++ Open l ∷ [] → branch_turns new ≡ branch_turns bs
branch_turns-fact bs new l is = ap branch_turns is ∙ branch_turns-append bs (Open l ∷ []) ∙ append-nil (branch_turns bs)

-- there are no more turns than branches
pub turns_few : (bs : List Branch) → length (branch_turns bs) ≤ length bs
turns_few [] = omega arith
turns_few (Open l ∷ bs) = omega (arith, turns_few bs)
turns_few (Closed l ∷ bs) = omega (arith, turns_few bs)
turns_few (Turned t ∷ bs) = omega (arith, turns_few bs)
