use Rattle.std.proofs.Common.{◌≡◌, true, arith, rules, sym, ◌∙◌}
use Rattle.pv_ast.specs.declared.ExprKind.TheViews as views
use Rattle.pv_ast.specs.declared.ExprKind.TheFolds as folds
use Rattle.small_meaning.specs.Sorts.{sort_of, is_truth}
use Rattle.small_verdicts.proofs.SortLemmas.{truth_parts, equal_parts, differ_parts, order_parts, literals_of_binary}
use Rattle.small_verdicts.proofs.evaluation.+condition.Goals as goal

pub condition-requires-in-And-2 : goal.condition-requires-in-And-2
condition-requires-in-And-2 g t c κs within =
    let second : is_truth (sort_of c.get-in-And-2.result.now) ≡ true =
    rw c.get-in-And-2.ensures ((truth_parts c.args.e.now _ _ _ (rw c.in-And.is at c.in-Binary.is) c.requires.truth).1) in
    (search (rules, views.the_lemmas), (search rules, (second, search (rules, folds.the_lemmas))))

pub condition-requires-in-Or-2 : goal.condition-requires-in-Or-2
condition-requires-in-Or-2 g t c κs within =
    let second : is_truth (sort_of c.get-in-Or-2.result.now) ≡ true =
    rw c.get-in-Or-2.ensures ((truth_parts c.args.e.now _ _ _ (rw c.in-Or.is at c.in-Binary.is) c.requires.truth).1) in
    (search (rules, views.the_lemmas), (search rules, (second, search (rules, folds.the_lemmas))))

pub condition-requires-in-Eq-2 : goal.condition-requires-in-Eq-2
condition-requires-in-Eq-2 g t c κs within =
    let second : is_truth (sort_of c.get-in-Eq-3.result.now) ≡ true =
    rw c.get-in-Eq-3.ensures
    (((equal_parts c.args.e.now _ _ (rw c.in-Eq.is at c.in-Binary.is) c.requires.truth).1.1
    (sym (rw c.get-in-Eq.ensures at c.is_number_expr.ensures) ∙ c.if-is_number_expr.false)).1) in
    (search (rules, views.the_lemmas), (search rules, (second, search (rules, folds.the_lemmas))))

pub condition-requires-in-Ne-2 : goal.condition-requires-in-Ne-2
condition-requires-in-Ne-2 g t c κs within =
    let second : is_truth (sort_of c.get-in-Ne-3.result.now) ≡ true =
    rw c.get-in-Ne-3.ensures
    (((differ_parts c.args.e.now _ _ (rw c.in-Ne.is at c.in-Binary.is) c.requires.truth).1.1
    (sym (rw c.get-in-Ne.ensures at c.is_number_expr-in-Ne.ensures) ∙ c.if-is_number_expr-2.false)).1) in
    (search (rules, views.the_lemmas), (search rules, (second, search (rules, folds.the_lemmas))))

pub ordered_numbers-requires : goal.ordered_numbers-requires
ordered_numbers-requires g t c =
    let p = order_parts c.args.e.now _ _ _ c.in-Binary.is c.requires.truth c.in_default-op.not-And c.in_default-op.not-Or
    c.in_default-op.not-Eq c.in_default-op.not-Ne in
    let l = literals_of_binary c.args.e.now _ _ _ c.in-Binary.is in
    record {
      order = p.0;
      first = rw c.get-in_default-op.ensures p.1;
      second = rw c.get-in_default-op-2.ensures p.2;
      size =
          rw c.get-in_default-op.ensures (rw c.get-in_default-op-2.ensures (omega (arith, l, c.requires.size)));
    }
