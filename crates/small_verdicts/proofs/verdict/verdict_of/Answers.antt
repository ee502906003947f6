use Rattle.small_verdicts.proofs.RulesLemmas.{method_sorted}
use Rattle.small_verdicts.proofs.verdict.verdict_of.Goals as goal

pub search-requires-clause-sorted : goal.search-requires-clause-sorted
search-requires-clause-sorted c = method_sorted c.args.method.now c.requires.rules
