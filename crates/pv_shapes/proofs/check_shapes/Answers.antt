use Rattle.std.proofs.Common.{refl, sym, ◌∙◌, ap}
use Rattle.std.specs.List.{flat_map}
use Rattle.pv_ast.specs.Rules.Shapes as shapes
use Rattle.pv_shapes.proofs.FirstStarts.{none_of_none}
use Rattle.pv_shapes.proofs.check_shapes.Goals as goal

pub returns-in-None-clause-passes : goal.returns-in-None-clause-passes
returns-in-None-clause-passes c =
    let told =
    c.fault_of_classes.ensures ∙ ap (λ classes. shapes.first_of (flat_map shapes.faults_of_class classes)) c.as_slice.ensures
    in
    (λ _. none_of_none (shapes.shape_faults_of c.args.program.now) (sym told ∙ c.in-None.is), λ _. refl)
