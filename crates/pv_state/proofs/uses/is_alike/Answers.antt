use Rattle.pv_state.proofs.Orders.{sorts_stay}
use Rattle.pv_state.proofs.uses.is_alike.Goals as goal

pub returns-clause-still : goal.returns-clause-still
returns-clause-still g c = sorts_stay _ _ _ _ _ _ (λ takes s. c.in_ok-told.ensures.sorted takes s c.requires.first.sort
    c.requires.second.sort) c.requires.ready
