use Rattle.pv_diff.proofs.slots.references_of.Goals as goal

pub returns-clause-zero : goal.returns-clause-zero
returns-clause-zero c = (c.sorted.ensures.same 0).1 c.in_ok-symbols.ensures.zero

pub returns-clause-named : goal.returns-clause-named
returns-clause-named c = λ p k l g h. (c.sorted.ensures.same k).1 (c.in_ok-symbols.ensures.named p k l g h)

pub returns-clause-only : goal.returns-clause-only
returns-clause-only c = λ k h. c.in_ok-symbols.ensures.only k ((c.sorted.ensures.same k).0 h)
