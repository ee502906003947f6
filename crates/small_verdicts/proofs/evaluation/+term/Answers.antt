use Rattle.small_verdicts.proofs.SortLemmas.{number_parts}
use Rattle.small_verdicts.proofs.evaluation.+term.Goals as goal

pub literal_of-by-requires : goal.literal_of-by-requires
literal_of-by-requires t c = let p = number_parts c.args.e.now _ _ _ c.in-Binary.is c.requires.number in
    rw c.get-in-Binary-2.ensures p.2

pub moved-requires-clause-sum : goal.moved-requires-clause-sum
moved-requires-clause-sum t c = (number_parts c.args.e.now _ _ _ c.in-Binary.is c.requires.number).0
