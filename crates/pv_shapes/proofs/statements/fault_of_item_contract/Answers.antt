use Rattle.std.proofs.Common.{◌∙◌, ap, subst, ◌<◌, length, get_or}
use Rattle.pv_ast.specs.Rules.Shapes as shapes
use Rattle.pv_shapes.proofs.Order.{first_step}
use Rattle.pv_shapes.proofs.statements.fault_of_item_contract.Goals as goal

pub loop-clause-preserved : goal.loop-clause-preserved
loop-clause-preserved c =
    let step = c.earlier-first.ensures ∙ ap (shapes.earlier c.loop-clause.first) c.fault_of_items.ensures in
    let same = c.as_slice-clause-items.ensures in
    let within : c.loop-clause.clause-index < length c.args.contract.now.clauses =
    subst (λ items. c.loop-clause.clause-index < length items) same c.loop-clause-test.true in
    first_step (λ clause. shapes.faults_of_items c.args.name.0 clause.formula) c.args.contract.now.clauses _ _ _ _ within
    (c.clause-item.is ∙ ap (λ items. get_or items c.loop-clause.clause-index c.clause-item.result) same) step
    c.loop-clause.invariant
