use Rattle.std.proofs.Common.{◌≡◌, drop}
use Rattle.std.specs.List.{flat_map}
use Rattle.pv_ast.specs.Rules.Shapes as shapes
use Rattle.pv_shapes.proofs.statements.fault_of_contract.Given as goal

abbrev pub invariant-loop-clause : goal.invariant-loop-clause
invariant-loop-clause l =
    shapes.earlier l.first (shapes.first_of (flat_map (λ clause. shapes.faults_of_formula clause.formula)
    (drop l.clause-index l.contract.clauses))) ≡ shapes.first_of
    (flat_map (λ clause. shapes.faults_of_formula clause.formula) l.contract.clauses)
