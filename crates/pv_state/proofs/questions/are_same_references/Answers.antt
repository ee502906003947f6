use Rattle.std.proofs.Common.{subst}
use Rattle.pv_linear.specs.Keeping.{AreUp}
use Rattle.pv_state.proofs.Orders.{sorts_stay}
use Rattle.pv_state.proofs.References.{same_told}
use Rattle.pv_state.proofs.questions.are_same_references.Goals as goal

pub returns-clause-says : goal.returns-clause-says
returns-clause-says g c = λ e f up. same_told _ e.values _ _ _ (c.in_ok-told.ensures.says e f) c.requires.first
    c.requires.second (subst (λ ts. AreUp ts e.values) c.in_ok-told.ensures.same_sorts up)

pub returns-clause-still : goal.returns-clause-still
returns-clause-still g c = sorts_stay _ _ _ _ _ _
    (λ takes s. c.in_ok-told.ensures.sorted takes s c.requires.first c.requires.second) c.requires.ready
