use Rattle.std.proofs.Common.{sym, ◌∙◌, ap, arith}
use Rattle.std.proofs.lemmas.Grind.{common_steps}
use Rattle.pv_ast.specs.Rules.Items.{Facts, shape_of, is_fixing, is_guard}
use Rattle.pv_plain.specs.Sights.{around, in_scope}
use Rattle.pv_plain.proofs.Conjuncts.{each_shown, fact_formula, star_formula, when_formula, refused_formula, perm_formula, token_formula, instance_formula, each_formula, plain_formula, both_items, operator_items, alone_items, repeated_operator, fixed_item, guarded_item, repeated_implication_item, perm_item, committed_item, repeated_token, repeated_item}
use Rattle.pv_plain.proofs.formulas.+formula.Goals as goal

pub formula-returns-then-is_fact : goal.formula-returns-then-is_fact
formula-returns-then-is_fact t c =
    let e = c.args.e.now in
    let w = c.args.within in
    let a = around c.args.sight in
    let v = in_scope c.args.sight in
    rw (fact_formula e c.in-Binary.a c.in-Binary.b c.in-Binary.operator c.in-Binary.is w a v (sym c.if-is_fact.ensures))
    (grind (arith, common_steps))

pub formula-returns-in_ok-b-in-Binary : goal.formula-returns-in_ok-b-in-Binary
formula-returns-in_ok-b-in-Binary t c =
    let e = c.args.e.now in
    let w = c.args.within in
    let a = around c.args.sight in
    let v = in_scope c.args.sight in
    rw (star_formula e c.in-Binary.a c.in-Binary.b c.in-Binary.operator c.in-Binary.is w a v (sym c.if-is_fact.ensures) (sym
    c.if-keeps_left.ensures))
    (grind (arith, common_steps))

pub formula-returns-in_ok-body-in-Binary : goal.formula-returns-in_ok-body-in-Binary
formula-returns-in_ok-body-in-Binary t c =
    let e = c.args.e.now in
    let w = c.args.within in
    let a = around c.args.sight in
    let v = in_scope c.args.sight in
    rw (when_formula e c.in-Binary.a c.in-Binary.b c.in-Binary.operator c.in-Binary.is w a v (sym c.if-is_fact.ensures) (sym
    c.if-is_implication.ensures))
    (grind (arith, common_steps))

pub formula-returns-else-is_implication : goal.formula-returns-else-is_implication
formula-returns-else-is_implication t c =
    let e = c.args.e.now in
    let w = c.args.within in
    let a = around c.args.sight in
    let v = in_scope c.args.sight in
    rw (refused_formula e c.in-Binary.a c.in-Binary.b c.in-Binary.operator c.in-Binary.is w a v (sym c.if-is_fact.ensures)
    (sym c.if-keeps_left.ensures) (sym c.if-is_implication.ensures))
    (grind (arith, common_steps))

pub formula-returns-in-Perm : goal.formula-returns-in-Perm
formula-returns-in-Perm t c =
    let e = c.args.e.now in
    let w = c.args.within in
    let a = around c.args.sight in
    let v = in_scope c.args.sight in
    rw (perm_formula e c.in-Perm.place c.in-Perm.part c.in-Perm.whole c.in-Perm.field-3 c.in-Perm.is w a v)
    (grind (arith, common_steps))

pub formula-returns-in-Token : goal.formula-returns-in-Token
formula-returns-in-Token t c =
    let e = c.args.e.now in
    let w = c.args.within in
    let a = around c.args.sight in
    let v = in_scope c.args.sight in
    rw (token_formula e c.in-Token.object c.in-Token.token c.in-Token.is w a v)
    (grind (arith, common_steps))

pub formula-returns-in-Instance : goal.formula-returns-in-Instance
formula-returns-in-Instance t c =
    let e = c.args.e.now in
    let w = c.args.within in
    let a = around c.args.sight in
    let v = in_scope c.args.sight in
    rw (instance_formula e c.in-Instance.target c.in-Instance.word c.in-Instance.args c.in-Instance.is w a v)
    (grind (arith, common_steps))

pub formula-returns-in-Each : goal.formula-returns-in-Each
formula-returns-in-Each t c =
    let e = c.args.e.now in
    let w = c.args.within in
    let a = around c.args.sight in
    let v = in_scope c.args.sight in
    rw (each_formula e c.in-Each.each c.in-Each.is w a v)
    (grind (arith, common_steps))

pub formula-returns-in_default : goal.formula-returns-in_default
formula-returns-in_default t c =
    let e = c.args.e.now in
    let w = c.args.within in
    let a = around c.args.sight in
    let v = in_scope c.args.sight in
    rw (plain_formula e c.in_default.not-Binary c.in_default.not-Perm c.in_default.not-Token c.in_default.not-Instance
    c.in_default.not-Each w a v)
    (grind (arith, common_steps))

pub item-returns-then-not-is_implication : goal.item-returns-then-not-is_implication
item-returns-then-not-is_implication t c =
    let e = c.args.e.now in
    let w = c.args.within in
    let a = around c.args.sight in
    let v = in_scope c.args.sight in
    rw (repeated_operator e c.in-Binary.a c.in-Binary.b c.in-Binary.operator c.in-Binary.is c.args.name w a v (sym
    c.if-not-is_implication.ensures))
    (grind (arith, common_steps))

pub item-returns-in_ok-body-in-Binary : goal.item-returns-in_ok-body-in-Binary
item-returns-in_ok-body-in-Binary t c =
    let e = c.args.e.now in
    let w = c.args.within in
    let a = around c.args.sight in
    let v = in_scope c.args.sight in
    let shown = sym (ap (λ e. (shape_of e).facts c.args.name.0) c.get.ensures) in
    let fixing = ap (λ (f : Facts). is_fixing f.form) shown ∙ sym (c.if-is_fixing.ensures ∙ ap (λ (f : Facts). is_fixing
    f.form) c.facts_of-form.ensures) in
    rw (fixed_item e c.in-Binary.a c.in-Binary.b c.in-Binary.operator c.in-Binary.is c.args.name w a v (sym
    c.if-not-is_implication.ensures) fixing)
    (grind (arith, common_steps))

pub item-returns-in_ok-item-in-Binary : goal.item-returns-in_ok-item-in-Binary
item-returns-in_ok-item-in-Binary t c =
    let e = c.args.e.now in
    let w = c.args.within in
    let a = around c.args.sight in
    let v = in_scope c.args.sight in
    let shown = sym (ap (λ e. (shape_of e).facts c.args.name.0) c.get.ensures) in
    let fixing = ap (λ (f : Facts). is_fixing f.form) shown ∙ sym (c.if-is_fixing.ensures ∙ ap (λ (f : Facts). is_fixing
    f.form) c.facts_of-form.ensures) in
    let guard = ap (λ (f : Facts). is_guard f.form) shown ∙ sym (c.if-is_guard.ensures ∙ ap (λ (f : Facts). is_guard f.form)
    c.facts_of-form.ensures) in
    rw (guarded_item e c.in-Binary.a c.in-Binary.b c.in-Binary.operator c.in-Binary.is c.args.name w a v (sym
    c.if-not-is_implication.ensures) fixing guard)
    (grind (arith, common_steps))

pub item-returns-else-is_guard : goal.item-returns-else-is_guard
item-returns-else-is_guard t c =
    let e = c.args.e.now in
    let w = c.args.within in
    let a = around c.args.sight in
    let v = in_scope c.args.sight in
    let shown = sym (ap (λ e. (shape_of e).facts c.args.name.0) c.get.ensures) in
    let fixing = ap (λ (f : Facts). is_fixing f.form) shown ∙ sym (c.if-is_fixing.ensures ∙ ap (λ (f : Facts). is_fixing
    f.form) c.facts_of-form.ensures) in
    let guard = ap (λ (f : Facts). is_guard f.form) shown ∙ sym (c.if-is_guard.ensures ∙ ap (λ (f : Facts). is_guard f.form)
    c.facts_of-form.ensures) in
    rw (repeated_implication_item e c.in-Binary.a c.in-Binary.b c.in-Binary.operator c.in-Binary.is c.args.name w a v (sym
    c.if-not-is_implication.ensures) fixing guard)
    (grind (arith, common_steps))

pub item-returns-in-Perm : goal.item-returns-in-Perm
item-returns-in-Perm t c =
    let e = c.args.e.now in
    let w = c.args.within in
    let a = around c.args.sight in
    let v = in_scope c.args.sight in
    rw (perm_item e c.in-Perm.place c.in-Perm.part c.in-Perm.whole c.in-Perm.field-3 c.in-Perm.is c.args.name w a v)
    (grind (arith, common_steps))

pub item-returns-then-is_committed : goal.item-returns-then-is_committed
item-returns-then-is_committed t c =
    let e = c.args.e.now in
    let w = c.args.within in
    let a = around c.args.sight in
    let v = in_scope c.args.sight in
    rw (committed_item e c.in-Token.object c.in-Token.token c.in-Token.is c.args.name w a v (sym c.if-is_committed.ensures))
    (grind (arith, common_steps))

pub item-returns-else-is_committed : goal.item-returns-else-is_committed
item-returns-else-is_committed t c =
    let e = c.args.e.now in
    let w = c.args.within in
    let a = around c.args.sight in
    let v = in_scope c.args.sight in
    rw (repeated_token e c.in-Token.object c.in-Token.token c.in-Token.is c.args.name w a v (sym c.if-is_committed.ensures))
    (grind (arith, common_steps))

pub item-returns-in_default : goal.item-returns-in_default
item-returns-in_default t c =
    let e = c.args.e.now in
    let w = c.args.within in
    let a = around c.args.sight in
    let v = in_scope c.args.sight in
    rw (repeated_item e c.in_default.not-Binary c.in_default.not-Perm c.in_default.not-Token c.args.name w a v)
    (grind (arith, common_steps))

pub items-returns-in_ok-second-in-Binary : goal.items-returns-in_ok-second-in-Binary
items-returns-in_ok-second-in-Binary t c =
    let e = c.args.e.now in
    let w = c.args.within in
    let a = around c.args.sight in
    let v = in_scope c.args.sight in
    rw (both_items e c.in-Binary.a c.in-Binary.b c.in-Binary.operator c.in-Binary.is c.args.name w a v (sym
    c.if-keeps_left.ensures))
    (grind (arith, common_steps))

pub items-returns-in_ok-item-in-Binary : goal.items-returns-in_ok-item-in-Binary
items-returns-in_ok-item-in-Binary t c =
    let e = c.args.e.now in
    let w = c.args.within in
    let a = around c.args.sight in
    let v = in_scope c.args.sight in
    rw (operator_items e c.in-Binary.a c.in-Binary.b c.in-Binary.operator c.in-Binary.is c.args.name w a v (sym
    c.if-keeps_left.ensures))
    (grind (arith, common_steps))

pub items-returns-in_ok-item-in_default : goal.items-returns-in_ok-item-in_default
items-returns-in_ok-item-in_default t c =
    let e = c.args.e.now in
    let w = c.args.within in
    let a = around c.args.sight in
    let v = in_scope c.args.sight in
    rw (alone_items e c.in_default.not-Binary c.args.name w a v)
    (grind (arith, common_steps))

pub quantified-returns : goal.quantified-returns
quantified-returns t c =
    rw (each_shown c.args.each.now c.args.span (around c.args.sight) (in_scope c.args.sight)) (grind (arith, common_steps))
