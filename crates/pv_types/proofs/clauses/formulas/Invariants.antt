use Rattle.std.proofs.Common.{◌≡◌, drop}
use Rattle.pv_ast.specs.Rules.Faults.{least}
use Rattle.pv_ast.specs.Rules.Statements.{faults_of_formulas}
use Rattle.pv_types.specs.Environments.{environment_of}
use Rattle.pv_types.proofs.clauses.formulas.Given as goal

abbrev pub invariant-loop-e : goal.invariant-loop-e
invariant-loop-e l = record {
  found : least l.first (faults_of_formulas (environment_of l.environment) l.visible l.context (drop l.e-index l.es))
      ≡ least l.fn.first (faults_of_formulas (environment_of l.environment) l.fn.visible l.context l.es);
  same : l.visible ≡ l.fn.visible;
}
