-- Decisions, with their literals and their turns.
use Rattle.std.proofs.Common.{◌≡◌, ℕ, zero, suc, ◌+◌, ◌<◌, List, [], ◌∷◌, ◌++◌, length, refl, ap, sym, subst, ◌∙◌, arith, append-nil}
use Rattle.std.specs.Prelude.{slice_index}
use Rattle.pv_linear.specs.declared.Literal.{Literal}
use Rattle.pv_linear.specs.Values.{Values}
use Rattle.pv_linear.specs.Literal.{Meets}
use Rattle.pv_linear.specs.Evidence.{Evidence, evidence_of}
use Rattle.pv_linear.specs.Decisions.{Decision, fact, turn_is, On, Agrees, AllBelow, AreNumbered, literals_in, turns_in}

pub Agrees-front : (e : Evidence) (xs ys : List Decision) → Agrees e (xs ++ ys) → Agrees e xs
unfolding Agrees
Agrees-front e [] ys h = tt
Agrees-front e (x ∷ xs) ys h = (h.0, Agrees-front e xs ys h.1)

pub Agrees-last : (e : Evidence) (xs : List Decision) (d : Decision) → Agrees e (xs ++ d ∷ []) → On e d
unfolding Agrees
Agrees-last e [] d h = h.0
Agrees-last e (x ∷ xs) d h = Agrees-last e xs d h.1

pub literals_in-append : (ds es : List Decision) → literals_in (ds ++ es) ≡ literals_in ds ++ literals_in es
literals_in-append [] es = refl
literals_in-append (fact l ∷ ds) es = ap (λ ls. l ∷ ls) (literals_in-append ds es)
literals_in-append (turn_is k n ∷ ds) es = literals_in-append ds es

pub turns_in-append : (ds es : List Decision) → turns_in (ds ++ es) ≡ turns_in ds ++ turns_in es
turns_in-append [] es = refl
turns_in-append (fact l ∷ ds) es = turns_in-append ds es
turns_in-append (turn_is k n ∷ ds) es = ap (λ ns. n ∷ ns) (turns_in-append ds es)

-- a fact is no turn, and a turn no literal
pub turns_in-fact : (ds : List Decision) (l : Literal) → turns_in (ds ++ fact l ∷ []) ≡ turns_in ds
turns_in-fact ds l = turns_in-append ds (fact l ∷ []) ∙ append-nil (turns_in ds)

pub literals_in-turn : (ds : List Decision) (k n : ℕ) → literals_in (ds ++ turn_is k n ∷ []) ≡ literals_in ds
literals_in-turn ds k n = literals_in-append ds (turn_is k n ∷ []) ∙ append-nil (literals_in ds)

-- turns that are numbered in order
pub AreNumbered-fact : (k : ℕ) (ds : List Decision) (l : Literal) → AreNumbered k ds → AreNumbered k (ds ++ fact l ∷ [])
AreNumbered-fact k [] l h = tt
AreNumbered-fact k (fact m ∷ ds) l h = AreNumbered-fact k ds l h
AreNumbered-fact k (turn_is j n ∷ ds) l h = (h.0, AreNumbered-fact (suc k) ds l h.1)

pub AreNumbered-turn : (k : ℕ) (ds : List Decision) (j n : ℕ) → j ≡ k + length (turns_in ds) → AreNumbered k ds
    → AreNumbered k (ds ++ turn_is j n ∷ [])
AreNumbered-turn k [] j n e h = (omega (arith, e), tt)
AreNumbered-turn k (fact m ∷ ds) j n e h = AreNumbered-turn k ds j n e h
AreNumbered-turn k (turn_is i m ∷ ds) j n e h = (h.0, AreNumbered-turn (suc k) ds j n (omega (arith, e)) h.1)

pub AreNumbered-front : (k : ℕ) (xs ys : List Decision) → AreNumbered k (xs ++ ys) → AreNumbered k xs
AreNumbered-front k [] ys h = tt
AreNumbered-front k (fact l ∷ xs) ys h = AreNumbered-front k xs ys h
AreNumbered-front k (turn_is j n ∷ xs) ys h = (h.0, AreNumbered-front (suc k) xs ys h.1)

-- another turn in the place of the last one has its number
pub AreNumbered-other : (k : ℕ) (xs : List Decision) (j m n : ℕ) → AreNumbered k (xs ++ turn_is j m ∷ [])
    → AreNumbered k (xs ++ turn_is j n ∷ [])
AreNumbered-other k [] j m n h = h
AreNumbered-other k (fact l ∷ xs) j m n h = AreNumbered-other k xs j m n h
AreNumbered-other k (turn_is i p ∷ xs) j m n h = (h.0, AreNumbered-other (suc k) xs j m n h.1)

-- turns below 3
pub AllBelow-more : (ns : List ℕ) (n : ℕ) → AllBelow ns → n < 3 → AllBelow (ns ++ n ∷ [])
AllBelow-more [] n h lt zero = lt
AllBelow-more [] n h lt (suc k) = omega arith
AllBelow-more (m ∷ ns) n h lt zero = h zero
AllBelow-more (m ∷ ns) n h lt (suc k) = AllBelow-more ns n (λ j. h (suc j)) lt k

pub AllBelow-front : (ms ns : List ℕ) → AllBelow (ms ++ ns) → AllBelow ms
AllBelow-front [] ns h k = omega arith
AllBelow-front (m ∷ ms) ns h zero = h zero
AllBelow-front (m ∷ ms) ns h (suc k) = AllBelow-front ms ns (λ j. h (suc j)) k

-- numbers that meet the literals of numbered decisions agree with them, with the turns that stand there
pub agrees_from : (v : Values) (ts : List ℕ) (k : ℕ) (ds : List Decision) → AreNumbered k ds → Meets v (literals_in ds)
    → ((j : ℕ) → j < length (turns_in ds) → slice_index ts (k + j) ≡ slice_index (turns_in ds) j) → Agrees (evidence_of v ts) ds
unfolding Agrees
agrees_from v ts k [] a m t = tt
agrees_from v ts k (fact l ∷ ds) a m t = (m.0, agrees_from v ts k ds a m.1 t)
agrees_from v ts k (turn_is i n ∷ ds) a m t =
    let z : k + 0 ≡ k = omega arith in
    let here : slice_index ts k ≡ n = subst (λ (q : ℕ). slice_index ts q ≡ n) z (t 0 (omega arith)) in (
      subst (λ (q : ℕ). slice_index ts q ≡ n) (sym a.0) here,
      agrees_from v ts (suc k) ds a.1 m (λ j lt. let s : k + suc j ≡ suc k + j = omega arith in
          subst (λ (q : ℕ). slice_index ts q ≡ slice_index (turns_in ds) j) s (t (suc j) (omega (arith, lt)))),
    )

pub meets_agrees : (v : Values) (ds : List Decision) → AreNumbered 0 ds → Meets v (literals_in ds)
    → Agrees (evidence_of v (turns_in ds)) ds
meets_agrees v ds a m = agrees_from v (turns_in ds) 0 ds a m (λ j lt. let z : 0 + j ≡ j = omega arith in rw z refl)

-- what agrees with decisions meets their literals
pub agreed_meets : (e : Evidence) (ds : List Decision) → Agrees e ds → Meets e.values (literals_in ds)
unfolding Agrees
agreed_meets e [] h = tt
agreed_meets e (fact l ∷ ds) h = (h.0, agreed_meets e ds h.1)
agreed_meets e (turn_is k n ∷ ds) h = agreed_meets e ds h.1
