use Rattle.small_verdicts.proofs.SortLemmas.{literal_is_number}
use Rattle.small_verdicts.proofs.evaluation.literal_of.Goals as goal

pub unreachable-requires : goal.unreachable-requires
unreachable-requires c = let n = literal_is_number c.args.e.now c.requires in c.in_default.not-Number n.0 n.1
