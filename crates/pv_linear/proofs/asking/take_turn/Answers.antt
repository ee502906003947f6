use Rattle.std.proofs.Common.{inl, inr}
use Rattle.pv_linear.proofs.AskingLemmas.{both_ok, Follows-turn-front, Follows-turn-says, Follows-turn-more}
use Rattle.pv_linear.proofs.SortedLemmas.{sorted_turned_as}
use Rattle.pv_linear.proofs.Pairs.{turn_alike, gone_decides_turn}
use Rattle.pv_linear.proofs.asking.take_turn.Goals as goal

pub returns-clause-goes : goal.returns-clause-goes
returns-clause-goes g c = both_ok c.turn.result _ _ _ c.turn.ensures.turns c.turn.ensures.decides (λ turn t d. record {
  narrows = λ e f. Follows-turn-front e _ _ _ (rw (c.turn.ensures.path, t) at f);
  keeps = c.turn.ensures.keeps;
  adds = c.turn.ensures.adds;
  gone = λ e f h. gone_decides_turn _ _ _ _ e f d h;
  ended_same = c.turn.ensures.ended;
})

pub returns-clause-says : goal.returns-clause-says
returns-clause-says g c = both_ok c.turn.result _ _ _ c.turn.ensures.turns c.turn.ensures.turns
    (λ turn t q. λ e f. Follows-turn-says e _ _ _ (rw t at f))

pub returns-clause-tells : goal.returns-clause-tells
returns-clause-tells g c = both_ok c.turn.result _ _ _ c.turn.ensures.turns c.turn.ensures.decides (λ turn t d. λ e f h k v m.
    elim (turn_alike _ _ _ _ e f (g.met.K.Asker.takes_first c.args.asker.now).numbered d v m) [
      | inl a ↦ rw (c.turn.ensures.path, t) (inl
          (Follows-turn-more e _ _ _ h a.0.0, (Follows-turn-more f _ _ _ k a.0.1, (a.1, tt))))
      | inr a ↦ inr a
    ])

pub returns-clause-sorted : goal.returns-clause-sorted
returns-clause-sorted g c = both_ok c.turn.result _ _ _ c.turn.ensures.turns
    (both_ok c.turn.result _ _ _ c.turn.ensures.below c.turn.ensures.decides (λ turn b d. sorted_turned_as _ _ _ _ b d))
    (λ turn t next. λ takes s. rw (c.turn.ensures.path, t, c.turn.ensures.sorts) (next takes _ _ s))
