use Rattle.std.proofs.Common.{◌∙◌, sym, ap, subst}
use Rattle.pv_ast.specs.Rules.Scoping.{declare, is_visible}
use Rattle.pv_types.specs.Growth.{Extends}
use Rattle.pv_types.proofs.Keys.{declare-new}
use Rattle.pv_types.proofs.Leaving.{extends_declare}
use Rattle.pv_types.proofs.visible.Visible.declare.Goals as goal

declared : goal.returns-in_ok-insert-clause-declared
declared c =
    let name = c.args.name in
    let inside = c.self.inside in
    declare-new (record { names = inside.names.entries; outside = inside.outside }) c.insert.new.self.entries name c.args.declared
    (sym c.if-not-is_visible.true ∙ (c.is_visible.ensures ∙ ap (λ v. is_visible v name) (sym c.self.view_is)))
    c.in_ok-insert.ensures.entries
    ∙ ap (λ v. declare v name c.args.declared) c.self.view_is

pub returns-in_ok-insert-clause-declared : goal.returns-in_ok-insert-clause-declared
returns-in_ok-insert-clause-declared c = declared c

pub returns-in_ok-insert-clause-extends : goal.returns-in_ok-insert-clause-extends
returns-in_ok-insert-clause-extends c =
    subst (Extends c.args.self.now) (sym (declared c)) (extends_declare c.args.self.now c.args.name c.args.declared)
