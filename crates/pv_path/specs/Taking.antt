-- The turns taken are the first of the turns among the decisions: a law of paths, with what proves it.
use Rattle.std.specs.Prelude.{ℕ, ◌≡◌, List, [], ◌∷◌, ◌++◌, length, take, drop}
use Rattle.std.proofs.Common.{ap, sym, ◌∙◌, arith, append_assoc, append-nil}
use Rattle.std.proofs.lemmas.List.{take-append-drop}
pub use Rattle.pv_linear.proofs.DecisionLemmas.{turns_in-append, AreNumbered-fact, AreNumbered-turn}
use Rattle.pv_linear.specs.Decisions.{Decision, fact, turns_in, AreNumbered, AreTaken}
use Rattle.pv_path.specs.declared.branch.Branch.{Branch}
use Rattle.pv_path.specs.declared.branch.Branch.TheVariants.{Open, Closed, Turned}
use Rattle.pv_path.specs.Branches.{turn_number, decision_behind, decisions_behind, decisions_of, branch_turns}

-- the turns of the decisions are those of the branches
pub turns_behind : (ds : List Decision) (bs : List Branch) → turns_in (decisions_behind ds bs) ≡ turns_in ds ++ branch_turns bs
turns_behind ds [] = sym (append-nil (turns_in ds))
turns_behind ds (Open l ∷ bs) = turns_behind (ds ++ fact l ∷ []) bs
    ∙ ap (λ ns. ns ++ branch_turns bs) (turns_in-append ds (fact l ∷ []) ∙ append-nil (turns_in ds))
turns_behind ds (Closed l ∷ bs) = turns_behind (ds ++ fact l ∷ []) bs
    ∙ ap (λ ns. ns ++ branch_turns bs) (turns_in-append ds (fact l ∷ []) ∙ append-nil (turns_in ds))
turns_behind ds (Turned t ∷ bs) = turns_behind (ds ++ decision_behind ds (Turned t) ∷ []) bs
    ∙ ap (λ ns. ns ++ branch_turns bs) (turns_in-append ds (decision_behind ds (Turned t) ∷ []))
    ∙ append_assoc (turns_in ds) (turn_number t ∷ []) (branch_turns bs)

pub turns_of_decisions : (bs : List Branch) → turns_in (decisions_of bs) ≡ branch_turns bs
turns_of_decisions bs = turns_behind [] bs

-- the turns of the decisions are numbered from 0
pub numbered_behind : (ds : List Decision) (bs : List Branch) → AreNumbered 0 ds → AreNumbered 0 (decisions_behind ds bs)
numbered_behind ds [] h = h
numbered_behind ds (Open l ∷ bs) h = numbered_behind _ bs (AreNumbered-fact 0 ds l h)
numbered_behind ds (Closed l ∷ bs) h = numbered_behind _ bs (AreNumbered-fact 0 ds l h)
numbered_behind ds (Turned t ∷ bs) h = numbered_behind _ bs
    (AreNumbered-turn 0 ds (length (turns_in ds)) (turn_number t) (omega arith) h)

-- so the first of the turns of the branches are taken
pub takes_first : (bs : List Branch) (taken : ℕ) → AreTaken (take taken (branch_turns bs)) (decisions_of bs)
takes_first bs taken = record {
  numbered = numbered_behind [] bs tt;
  front = (drop taken (branch_turns bs), turns_of_decisions bs ∙ sym (take-append-drop taken (branch_turns bs)));
}
