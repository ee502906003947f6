-- Paths of differences alone, which the tests walk.
use Rattle.std.proofs.Common.{◌≡◌, ℕ, ℤ, suc, List, [], ◌∷◌, ◌++◌, Bool, true, false, ap, sym, subst, ◌∙◌, inl, inr, append-nil}
use Rattle.pv_linear.specs.declared.Symbol.{Symbol}
use Rattle.pv_linear.specs.declared.Literal.{Literal}
use Rattle.pv_linear.specs.declared.Literal.TheVariants.{AtMost, Same, Differ}
use Rattle.pv_linear.specs.Literal.{opposite}
use Rattle.pv_linear.specs.Sorting.{IsNumberAmong, IsReferenceAmong}
use Rattle.pv_linear.specs.Evidence.{MayAsk, answered}
use Rattle.pv_linear.specs.Decisions.{Decision, fact, turn_is, literals_in, Decides, added, entailed, DecidesTurn, turned_to, kept}
use Rattle.pv_diff.specs.Parts.{AllAtMost, IsAtMost}
use Rattle.pv_path.specs.Standing.{IsSideOf, opposite_of, later_than}
use Rattle.pv_path.proofs.BranchLemmas.{literals_in-append}

more : (ls : List Literal) (l : Literal) → AllAtMost ls → IsAtMost l → AllAtMost (ls ++ l ∷ [])
more [] l h k = (k, tt)
more (x ∷ xs) l h k = (h.0, more xs l h.1 k)

right : (xs ys : List Literal) → AllAtMost (xs ++ ys) → AllAtMost ys
right [] ys h = h
right (x ∷ xs) ys h = right xs ys h.1

front : (xs ys : List Literal) → AllAtMost (xs ++ ys) → AllAtMost xs
front [] ys h = tt
front (x ∷ xs) ys h = (h.0, front xs ys h.1)

no_reference : (ls : List Literal) (k : ℕ) → AllAtMost ls → IsReferenceAmong ls k → ⊥
no_reference [] k h r = r
no_reference (AtMost x y c ∷ ls) k h (inl r) = r
no_reference (Same x y ∷ ls) k h (inl r) = h.0
no_reference (Differ x y ∷ ls) k h (inl r) = h.0
no_reference (l ∷ ls) k h (inr r) = no_reference ls k h.1 r

pub differences_may_ask : (path : List Literal) (x y : Symbol) (c : ℤ) → AllAtMost path → MayAsk path (AtMost x y c)
unfolding MayAsk
differences_may_ask path x y c h met k n r = no_reference (path ++ AtMost x y c ∷ []) (suc k) (more path (AtMost x y c) h tt) r

answered_at_most : (x y : Symbol) (c : ℤ) (told : Bool) → IsAtMost (answered (AtMost x y c) told)
answered_at_most x y c true = tt
answered_at_most x y c false = tt

pub differences_more : (old new : List Literal) (x y : Symbol) (c : ℤ) (told : Bool) → new ≡ old ++ answered (AtMost x y c) told
    ∷ [] → AllAtMost old → AllAtMost new
differences_more old new x y c told e h = subst AllAtMost (sym e)
    (more old (answered (AtMost x y c) told) h (answered_at_most x y c told))

pub differences_decided : (path : List Literal) (old new : List Decision) (x y : Symbol) (c : ℤ) (told : Bool)
    → Decides path old new (answered (AtMost x y c) told) → AllAtMost (literals_in old) → AllAtMost (literals_in new)
differences_decided path old new x y c told (added one other e) h =
    subst AllAtMost (sym (ap literals_in e ∙ literals_in-append old (fact (answered (AtMost x y c) told) ∷ [])))
    (more (literals_in old) (answered (AtMost x y c) told) h (answered_at_most x y c told))
differences_decided path old new x y c told (entailed e follows) h = subst AllAtMost (sym (ap literals_in e)) h

pub differences_turned : (turns : List ℕ) (old new : List Decision) (n : ℕ) → DecidesTurn turns old new n
    → AllAtMost (literals_in old) → AllAtMost (literals_in new)
differences_turned turns old new n (turned_to all e) h =
    subst AllAtMost (sym (ap literals_in e ∙ literals_in-append old _)) (none (literals_in old) h)
  where
    none : (ls : List Literal) → AllAtMost ls → AllAtMost (ls ++ [])
    none [] m = tt
    none (l ∷ ls) m = (m.0, none ls m.1)
differences_turned turns old new n (kept there e) h = subst AllAtMost (sym (ap literals_in e)) h

pub differences_over : (ds part : List Decision) → IsSideOf ds part → AllAtMost (literals_in ds) → AllAtMost (literals_in part)
differences_over ds part (opposite_of xs ys l e f) h = subst AllAtMost
    (sym (ap literals_in f ∙ literals_in-append xs (fact (opposite l) ∷ []))) (go l (subst AllAtMost
    (ap literals_in e ∙ literals_in-append xs (fact l ∷ ys)) h))
  where
    go : (l : Literal) → AllAtMost (literals_in xs ++ l ∷ literals_in ys) → AllAtMost (literals_in xs ++ opposite l ∷ [])
    go (AtMost x y c) k = more (literals_in xs) (opposite (AtMost x y c)) (front (literals_in xs) _ k) tt
    go (Same x y) k = absurd (right (literals_in xs) _ k).0
    go (Differ x y) k = absurd (right (literals_in xs) _ k).0
differences_over ds part (later_than xs ys k m n e lt below f) h = subst AllAtMost
    (sym (ap literals_in f ∙ literals_in-append xs (turn_is k n ∷ []) ∙ append-nil (literals_in xs)))
    (front (literals_in xs) (literals_in ys) (subst AllAtMost (ap literals_in e ∙ literals_in-append xs (turn_is k m ∷ ys)) h))

-- the first question may be any
pub first_may_ask : (path : List Literal) (x y : Symbol) (c : ℤ) → path ≡ [] → MayAsk path (AtMost x y c)
first_may_ask path x y c e = differences_may_ask path x y c (subst AllAtMost (sym e) tt)

pub first_may_be_same : (path : List Literal) (x y : Symbol) → path ≡ [] → MayAsk path (Same x y)
unfolding MayAsk
first_may_be_same path x y e met k n r = none (subst (λ (ls : List Literal). IsNumberAmong (ls ++ Same x y ∷ []) (suc k)) e n)
  where
    none : IsNumberAmong (Same x y ∷ []) (suc k) → ⊥
    none (inl h) = h
    none (inr h) = h
