use Rattle.std.proofs.Common.{rules, sym, ◌∙◌, ap}
use Rattle.pv_ast.specs.declared.Each.{out-Each}
use Rattle.pv_ast.specs.Rules.Items as items
use Rattle.pv_ast.specs.Rules.Shapes as shapes
use Rattle.pv_shapes.specs.Seen.{whole_as}
use Rattle.pv_shapes.proofs.Order.{first_append, first_three}
use Rattle.pv_shapes.proofs.Layers.{at_expr, at_each, at_binary, at_quantifier, alone, alone_binary, part_shown, operator_shown}
use Rattle.pv_shapes.proofs.Using.{used_if}
use Rattle.pv_shapes.proofs.formulas.+shapes.Goals as goal
use Rattle.pv_shapes.proofs.formulas.+shapes.Goals.{fault_of_parts-in_default-via-in-Binary+else-joins, fault_of_parts-in_default-via-in_default}

pub fault_of_quantifier-returns : goal.fault_of_quantifier-returns
fault_of_quantifier-returns t c = rw (at_each c.args.each.now, first_three) (search rules)

pub look_in-returns-in-Each-clause-facts : goal.look_in-returns-in-Each-clause-facts
look_in-returns-in-Each-clause-facts t c =
    let i = c.in-Each in
    let used = c.uses_in_each.ensures ∙ (ap (λ s. items.is_used (s.facts c.args.name.0).uses) (at_each i.each) ∙ used_if _) in
    let told =
    c.of-in-Each.ensures.facts ∙ (c.of_quantifier.ensures ∙ ap (items.facts_of_quantifier (out-Each i.each).star) used) in
    rw (i.is, at_quantifier i.each, at_each i.each) told

pub fault_of_parts-returns-in-Binary : goal.fault_of_parts-returns-in-Binary
fault_of_parts-returns-in-Binary t c =
    let i = c.in-Binary in
    let j = sym c.joins.ensures in
    rw (at_expr c.args.e.now, i.is, at_binary i.operator i.a i.b, j, c.if-joins.true) (rw first_append (search rules))

pub fault_of_parts-returns-in_default : goal.fault_of_parts-returns-in_default
fault_of_parts-returns-in_default t c =
    let e = c.args.e.now in
    let whole = whole_as c.args.whole in
    let told =
    c.fault_of_part.ensures ∙ part_shown whole e.span (items.shape_of e) c.args.name.0 _ _ c.look.ensures.item
    (ap (λ f. f.truth) c.look.ensures.facts) in
    elim c.in_default.branch [
      | fault_of_parts-in_default-via-in-Binary+else-joins w ↦
          (let i = w.in-Binary in told ∙ ap shapes.first_of
          (sym (alone_binary e i.operator i.a i.b i.is whole c.args.name.0 (sym w.joins.ensures ∙ w.if-joins.false))))
      | fault_of_parts-in_default-via-in_default w ↦ told
          ∙ ap shapes.first_of (sym (alone e w.in_default.not-Binary whole c.args.name.0))
    ]

pub fault_of_formula-returns-in-Binary : goal.fault_of_formula-returns-in-Binary
fault_of_formula-returns-in-Binary t c =
    let i = c.in-Binary in
    let left =
    c.fault_where.ensures ∙ (ap (λ b. shapes.first_of (items.faults_where b (items.shape_of c.get.result.now)))
    c.keeps_left.ensures ∙ ap (λ e. shapes.first_of (items.faults_where (items.keeps_left i.operator) (items.shape_of e)))
    c.get.ensures) in
    let right =
    c.fault_where-in-Binary.ensures ∙ (ap (λ b.
    shapes.first_of (items.faults_where b (items.shape_of c.get-in-Binary.result.now))) c.keeps_right.ensures
    ∙ ap (λ e. shapes.first_of (items.faults_where (items.keeps_right i.operator) (items.shape_of e)))
    c.get-in-Binary.ensures) in
    c.earlier.ensures ∙ (ap (λ x. shapes.earlier x c.fault_where-in-Binary.result) left
    ∙ (ap (shapes.earlier _) right ∙ sym (operator_shown c.args.e.now i.operator i.a i.b i.is)))
