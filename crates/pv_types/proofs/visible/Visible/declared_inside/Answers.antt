use Rattle.std.proofs.Common.{◌∙◌, sym, ap, drop}
use Rattle.pv_ast.specs.Rules.Scoping.{declared_as}
use Rattle.pv_types.proofs.Keys.{declared_as-inner, declared_as-outer, declared_as-nowhere}
use Rattle.pv_types.proofs.visible.Visible.declared_inside.Goals as goal

pub returns-in-Some : goal.returns-in-Some
returns-in-Some c =
    let name = c.args.name in
    let inside = c.self.inside in
    c.declared.ensures
    ∙ (sym (ap (λ v. declared_as v.names name) c.self.view_is)
    ∙ (declared_as-inner inside.names.entries name inside.outside c.in-Some.at c.in-Some.ensures.unique c.in-Some.ensures.index
    c.if-self-at.true
    ∙ ap (λ v. declared_as (drop v.outside v.names) name) c.self.view_is))

pub returns-in-Some-2 : goal.returns-in-Some-2
returns-in-Some-2 c =
    let name = c.args.name in
    let inside = c.self.inside in
    declared_as-outer inside.names.entries name inside.outside c.in-Some.at c.in-Some.ensures.unique c.in-Some.ensures.index
    c.if-self-at.false
    ∙ ap (λ v. declared_as (drop v.outside v.names) name) c.self.view_is

pub returns-in-None : goal.returns-in-None
returns-in-None c =
    let name = c.args.name in
    let inside = c.self.inside in
    declared_as-nowhere inside.names.entries name inside.outside c.in-None.ensures.found
    ∙ ap (λ v. declared_as (drop v.outside v.names) name) c.self.view_is
