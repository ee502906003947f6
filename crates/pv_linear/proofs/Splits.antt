-- Decisions of a unit, and pieces of evidence in parts that are apart.
use Rattle.std.proofs.Common.{◌≡◌, ◌≢◌, ℕ, suc, List, [], ◌∷◌, ◌++◌, refl, sym, subst, arith, ◌⊎◌, inl, inr, ◌∙◌}
use Rattle.pv_linear.specs.declared.Literal.{Literal}
use Rattle.pv_linear.specs.Literal.{opposite}
use Rattle.pv_linear.specs.Evidence.{Evidence, Follows}
use Rattle.pv_linear.specs.Decisions.{Decision, fact, turn_is, Agrees, Level, Apart, Gone, OfUnit}
use Rattle.pv_linear.specs.Asking.{Meet, Tells, TellsStopped, Together}
use Rattle.pv_linear.proofs.Pairs.{Agrees-append-one, Gone-more, Gone-last, Meet_front, Meet_rest, nat_same}
use Rattle.pv_linear.proofs.MeetsLemmas.{opposite_holds, opposite_denies}
use Rattle.pv_linear.proofs.DecisionLemmas.{Agrees-front, Agrees-last}

-- who has left a decision doesn't agree with all
pub gone_denies : (ds : List Decision) (e f : Evidence) → Gone ds e f → Agrees e ds → ⊥
unfolding Gone Agrees
gone_denies [] e f g a = g
gone_denies (fact l ∷ ds) e f (inl n) a = n.0 a.0
gone_denies (turn_is k m ∷ ds) e f (inl n) a = n.1 a.0
gone_denies (d ∷ ds) e f (inr p) a = gone_denies ds e f p.1 a.1

-- a new path has no decision
pub of_unit_none : {A : Type 0} (pattern : Evidence → A) (has : Evidence → Type 0) → OfUnit pattern has []
unfolding Level Agrees
of_unit_none pattern has e f h k p = inl (tt, tt)

-- who has the pattern of one that agrees with all decisions agrees with all of them
pub closed : {A : Type 0} (pattern : Evidence → A) (has : Evidence → Type 0) (ds : List Decision) → OfUnit pattern has ds
    → (e f : Evidence) → has e → has f → pattern e ≡ pattern f → Agrees e ds → Agrees f ds
unfolding Level
closed pattern has ds of e f h k p a = elim (of e f h k p) [ inl l ↦ l.1 | inr g ↦ absurd (gone_denies ds e f g a) ]

-- in two parts that are apart the patterns are different
pub patterns_differ : {A : Type 0} (pattern : Evidence → A) (has : Evidence → Type 0) (ds es : List Decision)
    → OfUnit pattern has ds → ((x : Evidence) → Agrees x ds → Agrees x es → ⊥) → (e f : Evidence) → has e → has f → Agrees e ds
    → Agrees f es → pattern e ≢ pattern f
patterns_differ pattern has ds es of apart e f h k a b = λ p. apart f (closed pattern has ds of e f h k p a) b

Gone-front : (e f : Evidence) (xs ys : List Decision) → Gone (xs ++ ys) e f → (Agrees e xs × Agrees f xs) ⊎ Gone xs e f
unfolding Gone Agrees
Gone-front e f [] ys g = inl (tt, tt)
Gone-front e f (x ∷ xs) ys (inl n) = inr (inl n)
Gone-front e f (x ∷ xs) ys (inr p) = elim (Gone-front e f xs ys p.1)
    [ inl a ↦ inl ((p.0.0, a.0), (p.0.1, a.1)) | inr g ↦ inr (inr (p.0, g)) ]

-- the first decisions are of the unit too
pub of_unit_front : {A : Type 0} (pattern : Evidence → A) (has : Evidence → Type 0) (xs ys : List Decision)
    → OfUnit pattern has (xs ++ ys) → OfUnit pattern has xs
unfolding Level
of_unit_front pattern has xs ys of e f h k p =
    elim (of e f h k p) [ inl l ↦ inl (Agrees-front e xs ys l.0, Agrees-front f xs ys l.1) | inr g ↦ Gone-front e f xs ys g ]

pub Gone-end : (e f : Evidence) (xs : List Decision) (d : Decision) → Gone (xs ++ d ∷ []) e f → Agrees e xs → Apart e f d
unfolding Gone Agrees
Gone-end e f [] d (inl n) a = n
Gone-end e f [] d (inr p) a = absurd p.1
Gone-end e f (fact l ∷ xs) d (inl n) a = absurd (n.0 a.0)
Gone-end e f (turn_is k m ∷ xs) d (inl n) a = absurd (n.1 a.0)
Gone-end e f (x ∷ xs) d (inr p) a = Gone-end e f xs d p.1 a.1

-- a literal that is turned over
pub of_unit_turned : {A : Type 0} (pattern : Evidence → A) (has : Evidence → Type 0) (xs : List Decision) (l : Literal)
    → OfUnit pattern has (xs ++ fact l ∷ []) → OfUnit pattern has (xs ++ fact (opposite l) ∷ [])
unfolding Level
of_unit_turned pattern has xs l of e f h k p = go (of e f h k p) (of_unit_front pattern has xs (fact l ∷ []) of e f h k p)
  where
    go : (Level (xs ++ fact l ∷ []) e f) ⊎ Gone (xs ++ fact l ∷ []) e f → Level xs e f ⊎ Gone xs e f
        → Level (xs ++ fact (opposite l) ∷ []) e f ⊎ Gone (xs ++ fact (opposite l) ∷ []) e f
    go a (inr g) = inr (Gone-more xs _ e f g)
    go (inl a) (inl b) = inr (Gone-last xs (fact (opposite l)) e f b.0 b.1 (
      (λ o. opposite_denies e.values l o (Agrees-last e xs (fact l) a.0)),
      (λ o. opposite_denies f.values l o (Agrees-last f xs (fact l) a.1)),
    ))
    go (inr g) (inl b) = let n = Gone-end e f xs (fact l) g b.0 in
        inl (
          Agrees-append-one e xs _ b.0 (opposite_holds e.values l n.0),
          Agrees-append-one f xs _ b.1 (opposite_holds f.values l n.1),
        )

pub Meet-same : {A : Type 0} (xs : List A) → Meet xs xs
unfolding Meet
Meet-same [] = tt
Meet-same (x ∷ xs) = (refl, Meet-same xs)

-- a run of the unit keeps its decisions of the unit
pub run_of_unit : {S A : Type 0} (path : S → List Literal) (turns : S → List ℕ) (decisions : S → List Decision) (old new : S)
    (shows : Evidence → List A) (has : Evidence → Type 0)
    → ((e : Evidence) → Agrees e (decisions old) → Follows (path old) (turns old) e)
    → ((e f : Evidence) → Gone (decisions old) e f → Gone (decisions new) e f)
    → Tells path turns decisions old new shows
    → OfUnit shows has (decisions old) → OfUnit shows has (decisions new)
unfolding Level
run_of_unit path turns decisions old new shows has start gone tells of e f h k p = elim (of e f h k p) [
  | inl l ↦ elim (tells e f (start e l.0) (start f l.1) l (subst (λ z. Meet (shows e) z) p (Meet-same (shows e))))
      [ inl t ↦ inl t.1.1.0 | inr g ↦ inr g ]
  | inr g ↦ inr (gone e f g)
]

-- and so does a run that was refused on its way
pub stopped_of_unit : {S A : Type 0} (path : S → List Literal) (turns : S → List ℕ) (decisions : S → List Decision) (old new : S)
    (shows : Evidence → List A) (has : Evidence → Type 0)
    → ((e : Evidence) → Agrees e (decisions old) → Follows (path old) (turns old) e)
    → ((e f : Evidence) → Gone (decisions old) e f → Gone (decisions new) e f)
    → TellsStopped path turns decisions old new shows
    → OfUnit shows has (decisions old) → OfUnit shows has (decisions new)
unfolding Level
stopped_of_unit path turns decisions old new shows has start gone tells of e f h k p = elim (of e f h k p) [
  | inl l ↦ elim (tells e f (start e l.0) (start f l.1) l (subst (λ z. Meet (shows e) z) p (Meet-same (shows e))))
      [ inl t ↦ inl t.1.1.0 | inr g ↦ inr g ]
  | inr g ↦ inr (gone e f g)
]

-- one run after the other: the shows of the second are known where the evidence follows the first
pub then_tells : {S A : Type 0} (path : S → List Literal) (turns : S → List ℕ) (decisions : S → List Decision) (old mid new : S)
    (one rest two : Evidence → List A)
    → Tells path turns decisions old mid one → Tells path turns decisions mid new two
    → ((e f : Evidence) → Gone (decisions mid) e f → Gone (decisions new) e f)
    → ((e : Evidence) → Follows (path mid) (turns mid) e → rest e ≡ two e)
    → Tells path turns decisions old new (λ e. one e ++ rest e)
then_tells path turns decisions old mid new one rest two a b gone same e f h k v m =
    go (a e f h k v (Meet_front (one e) (rest e) (one f) (rest f) m))
  where
    go : Together path turns decisions mid e f (one e ≡ one f)
        → Together path turns decisions new e f (one e ++ rest e ≡ one f ++ rest f)
    go (inr g) = inr (gone e f g)
    go (inl (x, (y, (w, s)))) =
        let p = same e x in
        let q = same f y in
        elim (b e f x y w (rw (p, q) at (Meet_rest (one e) (rest e) (one f) (rest f) s m)))
        [ inl t ↦ inl (t.0, (t.1.0, (t.1.1.0, (rw (p, q, s, t.1.1.1) refl)))) | inr g ↦ inr g ]

-- one run after the other, of which the second was refused on its way
pub then_stops : {S A : Type 0} (path : S → List Literal) (turns : S → List ℕ) (decisions : S → List Decision) (old mid new : S)
    (one rest two : Evidence → List A)
    → Tells path turns decisions old mid one → TellsStopped path turns decisions mid new two
    → ((e f : Evidence) → Gone (decisions mid) e f → Gone (decisions new) e f)
    → ((e : Evidence) → Follows (path mid) (turns mid) e → rest e ≡ two e)
    → TellsStopped path turns decisions old new (λ e. one e ++ rest e)
then_stops path turns decisions old mid new one rest two a b gone same e f h k v m =
    go (a e f h k v (Meet_front (one e) (rest e) (one f) (rest f) m))
  where
    go : Together path turns decisions mid e f (one e ≡ one f) → Together path turns decisions new e f (Unit {0})
    go (inr g) = inr (gone e f g)
    go (inl (x, (y, (w, s)))) =
        let p = same e x in
        let q = same f y in
        b e f x y w (rw (p, q) at (Meet_rest (one e) (rest e) (one f) (rest f) s m))

-- one that was refused before the second began
pub front_stops : {S A : Type 0} (path : S → List Literal) (turns : S → List ℕ) (decisions : S → List Decision) (old new : S)
    (one rest : Evidence → List A)
    → TellsStopped path turns decisions old new one
    → TellsStopped path turns decisions old new (λ e. one e ++ rest e)
front_stops path turns decisions old new one rest a e f h k v m =
    a e f h k v (Meet_front (one e) (rest e) (one f) (rest f) m)

-- the same of what is only equal to it, for two pieces of evidence
pub then_tells_as : {S A : Type 0} (path : S → List Literal) (turns : S → List ℕ) (decisions : S → List Decision)
    (old mid new : S) (show one rest two : Evidence → List A)
    → Tells path turns decisions old mid one → Tells path turns decisions mid new two
    → ((e f : Evidence) → Gone (decisions mid) e f → Gone (decisions new) e f)
    → ((e : Evidence) → show e ≡ one e ++ rest e)
    → ((e : Evidence) → Follows (path mid) (turns mid) e → rest e ≡ two e)
    → Tells path turns decisions old new show
then_tells_as path turns decisions old mid new show one rest two a b gone is same e f h k v m =
    let p = is e in
    let q = is f in
    elim (then_tells path turns decisions old mid new one rest two a b gone same e f h k v (rw (sym p, sym q) m))
    [ inl t ↦ inl (t.0, (t.1.0, (t.1.1.0, (p ∙ t.1.1.1 ∙ sym q)))) | inr g ↦ inr g ]

-- one more round of a loop: `rest` is what is left to show, `whole` what all of it shows
pub next_round : {S A : Type 0} (path : S → List Literal) (turns : S → List ℕ) (decisions : S → List Decision) (mid new : S)
    (whole rest one after left : Evidence → List A)
    → Tells path turns decisions mid new one
    → ((e f : Evidence) → Gone (decisions mid) e f → Gone (decisions new) e f)
    → ((e : Evidence) → rest e ≡ one e ++ after e)
    → ((e : Evidence) → Follows (path new) (turns new) e → after e ≡ left e)
    → (e f : Evidence) → Together path turns decisions mid e f (Meet (rest e) (rest f) × (rest e ≡ rest f → whole e ≡ whole f))
    → Together path turns decisions new e f (Meet (left e) (left f) × (left e ≡ left f → whole e ≡ whole f))
next_round path turns decisions mid new whole rest one after left tells gone is same e f (inr g) = inr (gone e f g)
next_round path turns decisions mid new whole rest one after left tells gone is same e f (inl (x, (y, (w, (m, k))))) =
    let m2 : Meet (one e ++ after e) (one f ++ after f) = rw (sym (is e), sym (is f)) m in
    go m2 (tells e f x y w (Meet_front (one e) (after e) (one f) (after f) m2))
  where
    go : Meet (one e ++ after e) (one f ++ after f) → Together path turns decisions new e f (one e ≡ one f)
        → Together path turns decisions new e f (Meet (left e) (left f) × (left e ≡ left f → whole e ≡ whole f))
    go m2 (inr g) = inr g
    go m2 (inl (x2, (y2, (w2, s)))) =
        let p = same e x2 in
        let q = same f y2 in
        inl (
          x2,
          (
            y2,
            (
              w2,
              (
                rw (sym p, sym q) (Meet_rest (one e) (after e) (one f) (after f) s m2),
                λ h.
                    k (is e ∙ rw (p, q, s, h) refl ∙ sym (is f)),
              ),
            ),
          ),
        )

-- nothing is left to show
pub no_round : {S A : Type 0} (path : S → List Literal) (turns : S → List ℕ) (decisions : S → List Decision) (new : S)
    (whole left : Evidence → List A)
    → ((e : Evidence) → Follows (path new) (turns new) e → left e ≡ [])
    → (e f : Evidence) → Together path turns decisions new e f (Meet (left e) (left f) × (left e ≡ left f → whole e ≡ whole f))
    → Together path turns decisions new e f (whole e ≡ whole f)
no_round path turns decisions new whole left none e f (inr g) = inr g
no_round path turns decisions new whole left none e f (inl (x, (y, (w, (m, k))))) =
    inl (x, (y, (w, k (none e x ∙ sym (none f y)))))

-- a turn that is turned over
pub of_unit_next_turn : {A : Type 0} (pattern : Evidence → A) (has : Evidence → Type 0) (xs : List Decision) (k n : ℕ)
    → OfUnit pattern has (xs ++ turn_is k n ∷ []) → OfUnit pattern has (xs ++ turn_is k (suc n) ∷ [])
unfolding Level
of_unit_next_turn pattern has xs k n of e f h j p =
    go (of e f h j p) (of_unit_front pattern has xs (turn_is k n ∷ []) of e f h j p)
  where
    go : (Level (xs ++ turn_is k n ∷ []) e f) ⊎ Gone (xs ++ turn_is k n ∷ []) e f → Level xs e f ⊎ Gone xs e f
        → Level (xs ++ turn_is k (suc n) ∷ []) e f ⊎ Gone (xs ++ turn_is k (suc n) ∷ []) e f
    go a (inr g) = inr (Gone-more xs _ e f g)
    go (inl a) (inl b) =
        let s = Agrees-last e xs (turn_is k n) a.0 in
        let t = Agrees-last f xs (turn_is k n) a.1 in
        inr (Gone-last xs (turn_is k (suc n)) e f b.0 b.1 (s ∙ sym t, λ u. (let w : n ≡ suc n = sym s ∙ u in omega (arith, w))))
    go (inr g) (inl b) =
        let m = Gone-end e f xs (turn_is k n) g b.0 in
        elim (nat_same (e.turns k) (suc n)) [
          | inl u ↦ inl (
            Agrees-append-one e xs (turn_is k (suc n)) b.0 u,
            Agrees-append-one f xs (turn_is k (suc n)) b.1 (sym m.0 ∙ u),
          )
          | inr u ↦ inr (Gone-last xs (turn_is k (suc n)) e f b.0 b.1 (m.0, u))
        ]
