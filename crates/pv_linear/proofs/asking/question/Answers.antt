use Rattle.pv_linear.proofs.MeetsLemmas.{Follows-front, Follows-says}
use Rattle.pv_linear.proofs.AskingLemmas.{both_ok}
use Rattle.pv_linear.proofs.SortedLemmas.{sorted_asked}
use Rattle.pv_linear.proofs.Pairs.{told_alike, gone_decides}
use Rattle.pv_linear.proofs.asking.question.Goals as goal

pub returns-clause-asks : goal.returns-clause-asks
returns-clause-asks g c = both_ok c.ask.result _ _ _ c.ask.ensures.path c.ask.ensures.decides (λ told p d. record {
  narrows = λ e f. Follows-front e _ _ _ (rw (p, c.ask.ensures.turns) at f);
  keeps = c.ask.ensures.keeps;
  adds = c.ask.ensures.adds;
  gone = λ e f h. gone_decides _ _ _ _ e f d h;
  ended_same = c.ask.ensures.ended;
  sorts_same = c.ask.ensures.sorts;
  turns_same = c.ask.ensures.turns;
})

pub returns-clause-says : goal.returns-clause-says
returns-clause-says g c = both_ok c.ask.result _ _ _ c.ask.ensures.path c.ask.ensures.path
    (λ told p q. λ e f. Follows-says e _ _ _ _ (rw p at f))

pub returns-clause-tells : goal.returns-clause-tells
returns-clause-tells g c = both_ok c.ask.result _ _ _ c.ask.ensures.path c.ask.ensures.decides (λ told p d. λ e f h k v m n.
    rw (p, c.ask.ensures.turns) (told_alike _ _ _ _ _ told e f d h k v m n))

pub returns-clause-sorted : goal.returns-clause-sorted
returns-clause-sorted g c = both_ok c.ask.result _ _ _ c.ask.ensures.path c.ask.ensures.decides (λ told p d. λ takes s h.
    rw (p, c.ask.ensures.turns, c.ask.ensures.sorts) (sorted_asked takes _ _ _ _ _ _ told d h s))
