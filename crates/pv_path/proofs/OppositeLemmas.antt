-- The other answers of a path's literals.
use Rattle.std.proofs.Common.{◌≡◌, List, [], ◌∷◌, ◌++◌, length, take, Some, refl, ap, sym, subst, ◌∙◌, slice_get}
use Rattle.std.proofs.Math.Seq.{take-append_seam}
use Rattle.pv_linear.specs.declared.Literal.{Literal}
use Rattle.pv_linear.specs.Literal.{opposite}
use Rattle.pv_linear.specs.Evidence.{CanBeMet}
use Rattle.pv_linear.specs.Decisions.{Decision, fact, AllBelow, AreNumbered, literals_in, turns_in}
use Rattle.pv_linear.proofs.DecisionLemmas.{literals_in-append, turns_in-append, turns_in-fact, AreNumbered-fact, AreNumbered-front, AllBelow-front}
use Rattle.pv_path.specs.declared.branch.Branch.{Branch}
use Rattle.pv_path.specs.Branches.{decisions_of, branch_literals}
use Rattle.pv_path.specs.Standing.{CanStand, AreUndecided}
use Rattle.pv_path.proofs.BranchLemmas.{literals_of_decisions, turns_of_decisions, numbered_behind}
use Rattle.pv_path.proofs.StandingLemmas.{turns_below, stands_where_met}

there : (xs ys : List Literal) (l : Literal) → slice_get (xs ++ l ∷ ys) (length xs) ≡ Some l
there [] ys l = refl
there (x ∷ xs) ys l = there xs ys l

-- the turns of a path are numbered in order, and below 3
pub numbered_turns : (bs : List Branch) → AreNumbered 0 (decisions_of bs)
numbered_turns bs = numbered_behind [] bs tt

pub below_turns : (bs : List Branch) → AllBelow (turns_in (decisions_of bs))
below_turns bs = subst AllBelow (sym (turns_of_decisions bs)) (turns_below bs)

-- with the other answer of each literal of the decisions something stands
pub opposite_stands : (bs : List Branch) (xs ys : List Decision) (l : Literal) → AreUndecided (branch_literals bs)
    → decisions_of bs ≡ xs ++ fact l ∷ ys → CanStand (xs ++ fact (opposite l) ∷ [])
opposite_stands bs xs ys l h e =
    let literals : branch_literals bs ≡ literals_in xs ++ l ∷ literals_in ys =
    sym (literals_of_decisions bs) ∙ ap literals_in e ∙ literals_in-append xs (fact l ∷ ys) in
    stands_where_met (xs ++ fact (opposite l) ∷ [])
    (AreNumbered-fact 0 xs (opposite l) (AreNumbered-front 0 xs (fact l ∷ ys) (subst (AreNumbered 0) e (numbered_turns bs))))
    (subst AllBelow (sym (turns_in-fact xs (opposite l)))
    (AllBelow-front (turns_in xs) (turns_in ys)
    (subst AllBelow (ap turns_in e ∙ turns_in-append xs (fact l ∷ ys)) (below_turns bs))))
    (subst CanBeMet (sym (literals_in-append xs (fact (opposite l) ∷ [])))
    (subst (λ (zs : List Literal). CanBeMet (zs ++ opposite l ∷ []))
    (ap (λ zs. take (length (literals_in xs)) zs) literals ∙ take-append_seam (literals_in xs) (l ∷ literals_in ys))
    (h (length (literals_in xs)) l (subst (λ (zs : List Literal). slice_get zs (length (literals_in xs)) ≡ Some l) (sym literals)
    (there (literals_in xs) (literals_in ys) l)))))
