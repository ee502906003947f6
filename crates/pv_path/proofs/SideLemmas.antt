-- What is so of decisions is so of their sides.
use Rattle.std.proofs.Common.{◌≡◌, ℕ, ◌<◌, List, [], ◌∷◌, ◌++◌, ap, sym, subst, ◌∙◌, ◌⊎◌, inl, inr, arith, append_assoc}
use Rattle.pv_linear.specs.declared.Sort.{Sort}
use Rattle.pv_linear.specs.declared.Literal.{Literal}
use Rattle.pv_linear.specs.Literal.{opposite}
use Rattle.pv_linear.specs.Sorting.{IsNumberAmong, IsReferenceAmong, AreSortsApart}
use Rattle.pv_linear.specs.Evidence.{Evidence, CanBeMet}
use Rattle.pv_linear.specs.Decisions.{Decision, fact, turn_is, Level, Gone, OfUnit, AllBelow, AreNumbered, literals_in, turns_in}
use Rattle.pv_linear.specs.Keeping.{Fits, HasMember, KeepSorts, AreSorted}
use Rattle.pv_linear.proofs.Pairs.{nat_same, Gone-more, Gone-last, Agrees-append-one}
use Rattle.pv_linear.proofs.Splits.{of_unit_front, of_unit_turned, Gone-end}
use Rattle.pv_linear.proofs.DecisionLemmas.{Agrees-last, literals_in-append, literals_in-turn, turns_in-append, turns_in-fact, AreNumbered-front, AreNumbered-fact, AreNumbered-other, AllBelow-front, AllBelow-more}
use Rattle.pv_linear.proofs.SortingLemmas.{number_either, number_left, number_right, reference_either, reference_left, reference_right, opposite_number, opposite_reference, apart_within}
use Rattle.pv_linear.proofs.SortsKept.{keep_front, keep_turned, keep_turn}
use Rattle.pv_linear.proofs.Fitting.{fit_member}
use Rattle.pv_linear.proofs.SortedLemmas.{sorted_keeps, sorted_apart, sorted_start, sorted_numbered, sorted_below}
use Rattle.pv_path.specs.Standing.{CanStand, IsSideOf, opposite_of, later_than}
use Rattle.pv_path.proofs.StandingLemmas.{met_where_stands}

-- a turn in place of another one
of_unit_other_turn : {A : Type 0} (pattern : Evidence → A) (has : Evidence → Type 0) (xs : List Decision) (k m n : ℕ) → m < n
    → OfUnit pattern has (xs ++ turn_is k m ∷ []) → OfUnit pattern has (xs ++ turn_is k n ∷ [])
unfolding Level
of_unit_other_turn pattern has xs k m n lt of e f h j p =
    go (of e f h j p) (of_unit_front pattern has xs (turn_is k m ∷ []) of e f h j p)
  where
    go : (Level (xs ++ turn_is k m ∷ []) e f) ⊎ Gone (xs ++ turn_is k m ∷ []) e f → Level xs e f ⊎ Gone xs e f
        → Level (xs ++ turn_is k n ∷ []) e f ⊎ Gone (xs ++ turn_is k n ∷ []) e f
    go a (inr g) = inr (Gone-more xs _ e f g)
    go (inl a) (inl b) =
        let s = Agrees-last e xs (turn_is k m) a.0 in
        let t = Agrees-last f xs (turn_is k m) a.1 in
        inr (Gone-last xs (turn_is k n) e f b.0 b.1 (s ∙ sym t, λ u. (let w : m ≡ n = sym s ∙ u in omega (arith, w, lt))))
    go (inr g) (inl b) =
        let q = Gone-end e f xs (turn_is k m) g b.0 in
        elim (nat_same (e.turns k) n) [
          | inl u ↦ inl (Agrees-append-one e xs (turn_is k n) b.0 u, Agrees-append-one f xs (turn_is k n) b.1 (sym q.0 ∙ u))
          | inr u ↦ inr (Gone-last xs (turn_is k n) e f b.0 b.1 (q.0, u))
        ]

-- each side of decisions of the unit is of the unit
pub of_unit_side : {A : Type 0} (pattern : Evidence → A) (has : Evidence → Type 0) (ds side : List Decision) → IsSideOf ds side
    → OfUnit pattern has ds → OfUnit pattern has side
of_unit_side pattern has ds side (opposite_of xs ys l e f) of =
    subst (OfUnit pattern has) (sym f) (of_unit_turned pattern has xs l
    (of_unit_front pattern has (xs ++ fact l ∷ []) ys
    (subst (OfUnit pattern has) (e ∙ sym (append_assoc xs (fact l ∷ []) ys)) of)))
of_unit_side pattern has ds side (later_than xs ys k m n e lt below f) of =
    subst (OfUnit pattern has) (sym f) (of_unit_other_turn pattern has xs k m n lt
    (of_unit_front pattern has (xs ++ turn_is k m ∷ []) ys
    (subst (OfUnit pattern has) (e ∙ sym (append_assoc xs (turn_is k m ∷ []) ys)) of)))

-- it keeps the sorts that the decisions keep
pub keep_side : (takes : Evidence → List Sort) (ds side : List Decision) → IsSideOf ds side → KeepSorts takes ds
    → KeepSorts takes side
keep_side takes ds side (opposite_of xs ys l e f) h = subst (KeepSorts takes) (sym f) (keep_turned takes [] xs l
    (keep_front takes [] (xs ++ fact l ∷ []) ys (subst (KeepSorts takes) (e ∙ sym (append_assoc xs (fact l ∷ []) ys)) h)))
keep_side takes ds side (later_than xs ys k m n e lt below f) h = subst (KeepSorts takes) (sym f) (keep_turn takes [] xs k n
    (keep_front takes [] xs (turn_is k m ∷ ys) (subst (KeepSorts takes) e h)))

-- numbers and references are apart in it
pub apart_side : (ds side : List Decision) → IsSideOf ds side → AreSortsApart (literals_in ds) → AreSortsApart (literals_in side)
apart_side ds side (opposite_of xs ys l e f) h =
    subst AreSortsApart (sym (ap literals_in f ∙ literals_in-append xs (fact (opposite l) ∷ [])))
    (apart_within (literals_in xs ++ opposite l ∷ []) (literals_in xs ++ l ∷ literals_in ys)
    (subst AreSortsApart (ap literals_in e ∙ literals_in-append xs (fact l ∷ ys)) h) numbers references)
  where
    numbers : (k : ℕ) → IsNumberAmong (literals_in xs ++ opposite l ∷ []) k
        → IsNumberAmong (literals_in xs ++ l ∷ literals_in ys) k
    numbers k n = elim (number_either k (literals_in xs) (opposite l ∷ []) n) [
      | inl a ↦ number_left k (literals_in xs) _ a
      | inr (inl a) ↦ number_right k (literals_in xs) (l ∷ literals_in ys) (inl (opposite_number l k a))
      | inr (inr a) ↦ absurd a
    ]

    references : (k : ℕ) → IsReferenceAmong (literals_in xs ++ opposite l ∷ []) k
        → IsReferenceAmong (literals_in xs ++ l ∷ literals_in ys) k
    references k n = elim (reference_either k (literals_in xs) (opposite l ∷ []) n) [
      | inl a ↦ reference_left k (literals_in xs) _ a
      | inr (inl a) ↦ reference_right k (literals_in xs) (l ∷ literals_in ys) (inl (opposite_reference l k a))
      | inr (inr a) ↦ absurd a
    ]
apart_side ds side (later_than xs ys k m n e lt below f) h =
    subst AreSortsApart (sym (ap literals_in f ∙ literals_in-turn xs k n))
    (apart_within (literals_in xs) (literals_in xs ++ literals_in ys)
    (subst AreSortsApart (ap literals_in e ∙ literals_in-append xs (turn_is k m ∷ ys)) h)
    (λ j a. number_left j (literals_in xs) _ a) (λ j a. reference_left j (literals_in xs) _ a))

-- its turns are numbered in order, and below 3
numbered_side : (ds side : List Decision) → IsSideOf ds side → AreNumbered 0 ds → AreNumbered 0 side
numbered_side ds side (opposite_of xs ys l e f) h = subst (AreNumbered 0) (sym f) (AreNumbered-fact 0 xs (opposite l)
    (AreNumbered-front 0 xs (fact l ∷ ys) (subst (AreNumbered 0) e h)))
numbered_side ds side (later_than xs ys k m n e lt below f) h = subst (AreNumbered 0) (sym f) (AreNumbered-other 0 xs k m n
    (AreNumbered-front 0 (xs ++ turn_is k m ∷ []) ys (subst (AreNumbered 0) (e ∙ sym (append_assoc xs (turn_is k m ∷ []) ys)) h)))

below_side : (ds side : List Decision) → IsSideOf ds side → AllBelow (turns_in ds) → AllBelow (turns_in side)
below_side ds side (opposite_of xs ys l e f) h = subst AllBelow (sym (ap turns_in f ∙ turns_in-fact xs (opposite l)))
    (AllBelow-front (turns_in xs) (turns_in ys) (subst AllBelow (ap turns_in e ∙ turns_in-append xs (fact l ∷ ys)) h))
below_side ds side (later_than xs ys k m n e lt below f) h =
    subst AllBelow (sym (ap turns_in f ∙ turns_in-append xs (turn_is k n ∷ [])))
    (AllBelow-more (turns_in xs) n (AllBelow-front (turns_in xs) (m ∷ turns_in ys)
    (subst AllBelow (ap turns_in e ∙ turns_in-append xs (turn_is k m ∷ ys)) h)) below)

-- after a run along a path that can be met, a run along a side starts with what it keeps of sorts
pub sorted_side : (takes : Evidence → List Sort) (path : List Literal) (turns : List ℕ) (ds side : List Decision)
    (made : List Sort)
    → IsSideOf ds side → CanBeMet path → AreSorted takes path turns ds made → AreSorted takes (literals_in side) [] side []
sorted_side takes path turns ds side made is met s = sorted_start takes side
    (numbered_side ds side is (sorted_numbered takes path turns ds made s))
    (below_side ds side is (sorted_below takes path turns ds made s))
    (apart_side ds side is (sorted_apart takes path turns ds made s met))
    (keep_side takes ds side is (sorted_keeps takes path turns ds made s))

-- and in each side on which something stands there is evidence on which the run takes no negative reference
pub side_member : (takes : Evidence → List Sort) (path : List Literal) (turns : List ℕ) (ds side : List Decision)
    (made : List Sort)
    → IsSideOf ds side → CanStand side → CanBeMet path → AreSorted takes path turns ds made → HasMember (Fits takes) side
side_member takes path turns ds side made is stand met s = fit_member takes side
    (numbered_side ds side is (sorted_numbered takes path turns ds made s))
    (below_side ds side is (sorted_below takes path turns ds made s))
    (apart_side ds side is (sorted_apart takes path turns ds made s met))
    (keep_side takes ds side is (sorted_keeps takes path turns ds made s))
    (met_where_stands side stand)
