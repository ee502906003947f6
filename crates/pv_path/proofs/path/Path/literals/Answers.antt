use Rattle.std.proofs.Common.{sym, ◌∙◌, arith}
use Rattle.pv_path.proofs.BranchLemmas.{literals_of_decisions}
use Rattle.pv_path.proofs.StandingLemmas.{bound_within}
use Rattle.pv_path.proofs.PathLemmas.{meets_wider, meets_narrower}
use Rattle.pv_path.proofs.path.Path.literals.Goals as goal

pub returns-clause-value : goal.returns-clause-value
returns-clause-value c = c.deref.ensures.value ∙ c.args.self.now.choices.same
    ∙ sym (literals_of_decisions c.args.self.now.choices.branches.items)

pub returns-clause-same : goal.returns-clause-same
returns-clause-same c = λ v. rw c.deref.ensures.value
    (meets_wider v _ _ c.args.self.now.narrowed, meets_narrower v _ _ c.args.self.now.narrowed)

pub returns-clause-bounds : goal.returns-clause-bounds
returns-clause-bounds c = rw c.deref.ensures.value
    (omega (arith, bound_within c.args.self.now.choices.literals.items, c.args.self.now.choices.near))
