-- What is at hand, and a comparison of numbers.
use Rattle.std.proofs.Common.{◌≡◌, ◌∙◌, refl, rules, to_z, of_z}
use mir.Syntax.{w128}
use Rattle.pv_picks.specs.Plain.Trees.{comparison_of}
use Rattle.pv_picks.specs.Formulas.Values.{number_in, comparison}
use Rattle.pv_cells.proofs.Trees.{constant_tree, this_tree, result_tree, variable_tree}
use Rattle.pv_cells.proofs.Values.{constant_is, this_is, result_is, variable_is, compared_is}
use Rattle.pv_cells.proofs.value.+value.Goals as goal

pub compared-returns-clause-goes : goal.compared-returns-clause-goes
compared-returns-clause-goes t c =
    let left : to_z w128 (of_z w128 c.number.result) ≡ c.number.result = search rules in
    let right : to_z w128 (of_z w128 c.number-2.result) ≡ c.number-2.result = search rules in
    let same : c.compare.result ≡ comparison (comparison_of c.args.order) (number_in c.in_ok-x.x) (number_in c.in_ok-y.y) =
    c.compare.ensures ∙ rw left (rw right (rw c.number.ensures (rw c.number-2.ensures refl))) in
    rw same (compared_is _ _ (comparison_of c.args.order) _ _ _ _ _ c.in_ok-x.x c.in_ok-y.y c.in_ok-x.ensures.goes
    c.in_ok-y.ensures.goes)

pub value-returns-in-Constant-clause-goes : goal.value-returns-in-Constant-clause-goes
value-returns-in-Constant-clause-goes t c = rw c.in-Constant.is
    (rw (constant_tree c.in-Constant.v) (constant_is _ _ c.in-Constant.v c.args.learned.now))

pub value-returns-in-This-clause-goes : goal.value-returns-in-This-clause-goes
value-returns-in-This-clause-goes t c = rw c.in-This.is (rw this_tree (this_is _ _ c.args.learned.now))

pub value-returns-in-Result-clause-goes : goal.value-returns-in-Result-clause-goes
value-returns-in-Result-clause-goes t c = rw c.in-Result.is (rw result_tree (result_is _ _ c.args.learned.now))

pub value-returns-in-Variable-clause-goes : goal.value-returns-in-Variable-clause-goes
value-returns-in-Variable-clause-goes t c =
    rw c.in-Variable.is (rw (variable_tree c.in-Variable.name) (rw c.variable.ensures
    (variable_is _ _ c.in-Variable.name c.args.learned.now)))
