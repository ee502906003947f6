use Rattle.std.proofs.Common.{IsTrue, refl}
use Rattle.vercors.specs.Refusals.{not_built}
use Rattle.vercors.proofs.ProgramLemmas.{refused_by_types, refused_by_shapes}
use Rattle.vercors.proofs.reading.check_program.Goals as goal

pub returns-in_err-check_types-clause-refuses : goal.returns-in_err-check_types-clause-refuses
returns-in_err-check_types-clause-refuses c =
    refused_by_types c.args.program.now c.in_err-check_types.field-0.0 c.from_residual.result c.in_err-check_types.ensures.first
    c.in_err-check_types.ensures.chosen c.from_residual.ensures.1

pub returns-in_err-check_shapes-clause-refuses : goal.returns-in_err-check_shapes-clause-refuses
returns-in_err-check_shapes-clause-refuses c =
    refused_by_shapes c.args.program.now c.in_err-check_shapes.field-0.0 c.from_residual-in_err-check_shapes.result
    c.in_ok-check_types.ensures.passes c.in_err-check_shapes.ensures.first c.from_residual-in_err-check_shapes.ensures.1

pub returns-else-is_small-clause-refuses : goal.returns-else-is_small-clause-refuses
returns-else-is_small-clause-refuses c =
    not_built c.in_ok-check_types.ensures.passes (c.in_ok-check_shapes.ensures.passes.0 refl)
    (λ small. let told : IsTrue c.is_small.result = c.is_small.ensures.1 small in absurd (cc))
