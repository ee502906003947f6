use Rattle.std.proofs.Common.{◌≡◌, drop}
use Rattle.pv_ast.specs.Rules.Faults.{least}
use Rattle.pv_ast.specs.Rules.Statements.{faults_of_clauses}
use Rattle.pv_types.specs.Environments.{environment_of}
use Rattle.pv_types.proofs.clauses.clauses.Given as goal

abbrev pub invariant-loop-clause : goal.invariant-loop-clause
invariant-loop-clause l = record {
  found : least l.first (faults_of_clauses (environment_of l.environment) l.visible l.in_ensures l.others
      (drop l.clause-index l.clauses))
      ≡ least l.fn.first (faults_of_clauses (environment_of l.environment) l.fn.visible l.in_ensures l.others l.clauses);
  same : l.visible ≡ l.fn.visible;
}
