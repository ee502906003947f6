use Rattle.std.proofs.Common.{subst, sym, ap, length, ◌∙◌}
use Rattle.pv_linear.proofs.DecisionLemmas.{meets_agrees}
use Rattle.pv_path.specs.Branches.{decisions_of}
use Rattle.pv_path.specs.Paths.{path_of}
use Rattle.pv_path.specs.Standing.{AreUndecided}
use Rattle.pv_path.proofs.BranchLemmas.{literals_of_decisions}
use Rattle.pv_path.proofs.OppositeLemmas.{numbered_turns, below_turns, opposite_stands}
use Rattle.pv_path.proofs.PathLemmas.{long_counts}
use Rattle.pv_path.proofs.laws.opposites_stand.Goals as goal

pub returns-clause-stand : goal.returns-clause-stand
returns-clause-stand c = let path = c.args.path.now in
    λ xs ys l e. opposite_stands path.choices.branches.items xs ys l (subst AreUndecided path.choices.same path.choices.undecided)
    e

pub returns-clause-long : goal.returns-clause-long
returns-clause-long c = let path = c.args.path.now in
    λ h. ap length (literals_of_decisions path.choices.branches.items ∙ sym path.choices.same)
    ∙ long_counts (path_of path) path.choices.literals.items path.narrowed h path.choices.few

pub returns-clause-agrees : goal.returns-clause-agrees
returns-clause-agrees c = let bs = c.args.path.now.choices.branches.items in
    λ v m. meets_agrees v (decisions_of bs) (numbered_turns bs) m

pub returns-clause-numbered : goal.returns-clause-numbered
returns-clause-numbered c = numbered_turns c.args.path.now.choices.branches.items

pub returns-clause-below : goal.returns-clause-below
returns-clause-below c = below_turns c.args.path.now.choices.branches.items
