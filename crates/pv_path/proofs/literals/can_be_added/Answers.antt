use Rattle.pv_linear.proofs.AskingLemmas.{both_ok}
use Rattle.pv_path.proofs.literals.can_be_added.Goals as goal

pub returns-clause-no : goal.returns-clause-no
returns-clause-no c = both_ok c.can_be_met.result _ _ _ c.can_be_met.ensures.no c.can_be_met.ensures.no
    (λ told denied again. λ no_ v met. denied no_ v (rw (c.deref.ensures.value, c.in_ok-all.ensures) met))
