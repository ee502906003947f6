use Rattle.std.proofs.Common.{◌∙◌}
use Rattle.small_verdicts.proofs.SortLemmas.{sum_sort}
use Rattle.small_verdicts.proofs.evaluation.is_number_expr.Goals as goal

pub returns-in-Binary : goal.returns-in-Binary
returns-in-Binary c = c.is_sum_operator.ensures ∙ sum_sort c.args.e.now _ _ _ c.in-Binary.is c.requires
