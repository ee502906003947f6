-- Decisions that keep the sorts of a unit.
use Rattle.std.proofs.Common.{ℕ, List, [], ◌∷◌, ◌++◌, Bool, sym, subst, append_assoc, append-nil}
use Rattle.std.specs.Prelude.{slice_get}
use Rattle.pv_linear.specs.declared.Sort.{Sort}
use Rattle.pv_linear.specs.declared.Literal.{Literal}
use Rattle.pv_linear.specs.Literal.{opposite}
use Rattle.pv_linear.specs.Sorts.{IsOfSorts, AreOfSorts}
use Rattle.pv_linear.specs.Evidence.{Evidence, HasTurns, answered}
use Rattle.pv_linear.specs.Decisions.{Decision, fact, turn_is, Agrees, literals_in, Decides, added, entailed, DecidesTurn, turned_to, kept}
use Rattle.pv_linear.specs.Keeping.{KeepSortsBehind, KeepSorts}
use Rattle.pv_linear.proofs.DecisionLemmas.{Agrees-front}
use Rattle.pv_linear.proofs.SortingLemmas.{opposite_sorts, answered_sorts}

pub keep_none : (takes : Evidence → List Sort) → KeepSorts takes []
unfolding KeepSortsBehind
keep_none takes = tt

pub keep_fact : (takes : Evidence → List Sort) (before ds : List Decision) (l : Literal) → KeepSortsBehind takes before ds
    → ((e : Evidence) → HasTurns e → Agrees e (before ++ ds) → IsOfSorts (slice_get (takes e)) l)
    → KeepSortsBehind takes before (ds ++ fact l ∷ [])
unfolding KeepSortsBehind
keep_fact takes before [] l h k = ((λ e p a. k e p (subst (Agrees e) (sym (append-nil before)) a)), tt)
keep_fact takes before (fact m ∷ ds) l h k = (
  h.0,
  keep_fact takes (before ++ fact m ∷ []) ds l h.1
      (λ e p a. k e p (subst (Agrees e) (append_assoc before (fact m ∷ []) ds) a)),
)
keep_fact takes before (turn_is i n ∷ ds) l h k =
    keep_fact takes (before ++ turn_is i n ∷ []) ds l h
    (λ e p a. k e p (subst (Agrees e) (append_assoc before (turn_is i n ∷ []) ds) a))

pub keep_turn : (takes : Evidence → List Sort) (before ds : List Decision) (i n : ℕ) → KeepSortsBehind takes before ds
    → KeepSortsBehind takes before (ds ++ turn_is i n ∷ [])
unfolding KeepSortsBehind
keep_turn takes before [] i n h = tt
keep_turn takes before (fact m ∷ ds) i n h = (h.0, keep_turn takes (before ++ fact m ∷ []) ds i n h.1)
keep_turn takes before (turn_is j m ∷ ds) i n h = keep_turn takes (before ++ turn_is j m ∷ []) ds i n h

-- the first decisions keep the sorts too, and so they do with the last one turned over
pub keep_front : (takes : Evidence → List Sort) (before xs ys : List Decision) → KeepSortsBehind takes before (xs ++ ys)
    → KeepSortsBehind takes before xs
unfolding KeepSortsBehind
keep_front takes before [] ys h = tt
keep_front takes before (fact m ∷ xs) ys h = (h.0, keep_front takes (before ++ fact m ∷ []) xs ys h.1)
keep_front takes before (turn_is j m ∷ xs) ys h = keep_front takes (before ++ turn_is j m ∷ []) xs ys h

pub keep_turned : (takes : Evidence → List Sort) (before xs : List Decision) (l : Literal)
    → KeepSortsBehind takes before (xs ++ fact l ∷ []) → KeepSortsBehind takes before (xs ++ fact (opposite l) ∷ [])
unfolding KeepSortsBehind
keep_turned takes before [] l h = ((λ e t a. opposite_sorts (slice_get (takes e)) l (h.0 e t a)), tt)
keep_turned takes before (fact m ∷ xs) l h = (h.0, keep_turned takes (before ++ fact m ∷ []) xs l h.1)
keep_turned takes before (turn_is j n ∷ xs) l h = keep_turned takes (before ++ turn_is j n ∷ []) xs l h

-- a question of the run's sorts keeps the sorts, and so does a turn
pub keep_decides : (takes : Evidence → List Sort) (path : List Literal) (old new : List Decision) (l : Literal) (told : Bool)
    → Decides path old new (answered l told)
    → ((e : Evidence) → HasTurns e → Agrees e old → IsOfSorts (slice_get (takes e)) l) → KeepSorts takes old → KeepSorts takes new
keep_decides takes path old new l told (added one other more) k h = subst (KeepSorts takes) (sym more)
    (keep_fact takes [] old (answered l told) h (λ e p a. answered_sorts (slice_get (takes e)) l told (k e p a)))
keep_decides takes path old new l told (entailed same all) k h = subst (KeepSorts takes) (sym same) h

pub keep_decides_turn : (takes : Evidence → List Sort) (turns : List ℕ) (old new : List Decision) (n : ℕ)
    → DecidesTurn turns old new n
    → KeepSorts takes old → KeepSorts takes new
keep_decides_turn takes turns old new n (turned_to all more) h = subst (KeepSorts takes) (sym more) (keep_turn takes [] old _ n h)
keep_decides_turn takes turns old new n (kept there same) h = subst (KeepSorts takes) (sym same) h

-- on evidence that agrees with all of them, all literals have the run's sorts
kept_behind : (takes : Evidence → List Sort) (before ds : List Decision) (e : Evidence) → KeepSortsBehind takes before ds
    → HasTurns e
    → Agrees e (before ++ ds) → AreOfSorts (slice_get (takes e)) (literals_in ds)
unfolding AreOfSorts KeepSortsBehind
kept_behind takes before [] e h p a = tt
kept_behind takes before (fact l ∷ ds) e h p a = (
  h.0 e p (Agrees-front e before (fact l ∷ ds) a),
  kept_behind takes (before ++ fact l ∷ []) ds e h.1 p (subst (Agrees e) (sym (append_assoc before (fact l ∷ []) ds)) a),
)
kept_behind takes before (turn_is i n ∷ ds) e h p a =
    kept_behind takes (before ++ turn_is i n ∷ []) ds e h p (subst (Agrees e) (sym (append_assoc before (turn_is i n ∷ []) ds)) a)

pub kept_sorts : (takes : Evidence → List Sort) (ds : List Decision) (e : Evidence) → KeepSorts takes ds → HasTurns e
    → Agrees e ds
    → AreOfSorts (slice_get (takes e)) (literals_in ds)
kept_sorts takes ds e h p a = kept_behind takes [] ds e h p a
