use Rattle.pv_diff.proofs.slots.symbols_of.Goals as goal

pub returns-clause-zero : goal.returns-clause-zero
returns-clause-zero c = (c.sorted.ensures.same 0).1 c.in_ok-symbols.ensures.zero

pub returns-clause-named : goal.returns-clause-named
returns-clause-named c = λ p x y m g. let r = c.in_ok-symbols.ensures.named p x y m g in
    ((c.sorted.ensures.same x.0).1 r.0, (c.sorted.ensures.same y.0).1 r.1)

pub returns-clause-only : goal.returns-clause-only
returns-clause-only c = λ k h. c.in_ok-symbols.ensures.only k ((c.sorted.ensures.same k).0 h)
