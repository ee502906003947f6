use Rattle.small_laws.proofs.Conjunctions.{conjunction_unbroken}
use Rattle.small_laws.proofs.+holds_where_unbroken.Goals as goal

pub returns-in-And : goal.returns-in-And
returns-in-And t c = λ s.
    let first = rw c.get.ensures at c.holds_where_unbroken.ensures in
    let second = rw c.get-in-And.ensures at c.holds_where_unbroken-in-And.ensures in
    conjunction_unbroken c.args.formula.now c.in-Binary.first c.in-Binary.second (rw c.in-And.is at c.in-Binary.is) s (first s)
    (second s)
