use Rattle.std.proofs.Common.{◌∙◌, sym, ap, take}
use Rattle.pv_ast.specs.Rules.Scoping.{declared_as}
use Rattle.pv_types.proofs.Keys.{declared_as-first, declared_as-later, declared_as-absent}
use Rattle.pv_types.proofs.visible.Visible.declared_before.Goals as goal

pub returns-in-Some : goal.returns-in-Some
returns-in-Some c =
    let name = c.args.name in
    let inside = c.self.inside in
    c.declared.ensures
    ∙ (sym (ap (λ v. declared_as v.names name) c.self.view_is)
    ∙ (declared_as-first inside.names.entries name c.args.count c.in-Some.at c.in-Some.ensures.index c.if-at-count.true
    ∙ ap (λ v. declared_as (take c.args.count v.names) name) c.self.view_is))

pub returns-in-Some-2 : goal.returns-in-Some-2
returns-in-Some-2 c =
    let name = c.args.name in
    let inside = c.self.inside in
    declared_as-later inside.names.entries name c.args.count c.in-Some.at c.in-Some.ensures.index c.if-at-count.false
    ∙ ap (λ v. declared_as (take c.args.count v.names) name) c.self.view_is

pub returns-in-None : goal.returns-in-None
returns-in-None c =
    let name = c.args.name in
    let inside = c.self.inside in
    declared_as-absent inside.names.entries name c.args.count c.in-None.ensures.found
    ∙ ap (λ v. declared_as (take c.args.count v.names) name) c.self.view_is
