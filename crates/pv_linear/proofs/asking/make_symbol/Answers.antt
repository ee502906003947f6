use Rattle.pv_linear.proofs.AskingLemmas.{both_ok}
use Rattle.pv_linear.proofs.SortedLemmas.{sorted_made}
use Rattle.pv_linear.proofs.asking.make_symbol.Goals as goal

pub returns-clause-sorted : goal.returns-clause-sorted
returns-clause-sorted g c = both_ok c.fresh.result _ _ _ c.fresh.ensures.sorts c.fresh.ensures.sorts
    (λ symbol made again. λ takes s h.
    rw (c.fresh.ensures.path, c.fresh.ensures.turns, c.fresh.ensures.decisions, made) (sorted_made takes _ _ _ _ _ h s))
