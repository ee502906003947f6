use Rattle.std.proofs.Common.{ap}
use Rattle.pv_ast.specs.Rules.Shapes as shapes
use Rattle.pv_shapes.proofs.FirstStarts.{none_of_none, first_is_first}
use Rattle.pv_shapes.proofs.firsts.first_starts_first.Goals as goal

pub returns-clause-none : goal.returns-clause-none
returns-clause-none c = λ faults. (none_of_none faults, ap shapes.first_of)

pub returns-clause-first : goal.returns-clause-first
returns-clause-first c = first_is_first
