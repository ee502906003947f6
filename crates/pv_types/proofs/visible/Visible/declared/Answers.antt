use Rattle.std.proofs.Common.{◌∙◌, sym, ap}
use Rattle.pv_ast.specs.Rules.Scoping.{declared_as}
use Rattle.pv_types.proofs.Keys.{declared_as-lookup}
use Rattle.pv_types.proofs.visible.Visible.declared.Goals as goal

pub returns : goal.returns
returns c =
    c.copied.ensures
    ∙ (c.get.ensures.value ∙ (sym (declared_as-lookup c.self.inside.names.entries c.args.name)
    ∙ ap (λ v. declared_as v.names c.args.name) c.self.view_is))
