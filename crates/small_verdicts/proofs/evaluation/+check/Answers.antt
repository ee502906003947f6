use Rattle.std.proofs.Common.{◌≡◌, true, rules}
use Rattle.pv_ast.specs.declared.ExprKind.TheViews as views
use Rattle.pv_ast.specs.declared.ExprKind.TheFolds as folds
use Rattle.small_meaning.specs.Sorts.{sort_of, is_truth}
use Rattle.small_verdicts.proofs.SortLemmas.{truth_parts}
use Rattle.small_verdicts.proofs.evaluation.+check.Goals as goal

pub check-requires-in-And : goal.check-requires-in-And
check-requires-in-And g t c κs within =
    let second : is_truth (sort_of c.get-in-And.result.now) ≡ true =
    rw c.get-in-And.ensures ((truth_parts c.args.e.now _ _ _ (rw c.in-And.is at c.in-Binary.is) c.requires.truth).1) in
    (search (rules, views.the_lemmas), (search rules, (second, search (rules, folds.the_lemmas))))
