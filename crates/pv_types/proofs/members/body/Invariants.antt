use Rattle.std.proofs.Common.{◌≡◌, ◌+◌, length, drop}
use Rattle.pv_ast.specs.Rules.Faults.{least}
use Rattle.pv_ast.specs.Rules.Statements.{faults_of_body, parts_of_block}
use Rattle.pv_types.specs.Environments.{environment_of}
use Rattle.pv_types.proofs.members.body.Given as goal

abbrev pub invariant-loop-each : goal.invariant-loop-each
invariant-loop-each l = record {
  found : least l.walk.first (faults_of_body (parts_of_block (drop l.each-index l.statements))
      (environment_of l.environment) l.walk.visible l.stand)
      ≡ least l.fn.walk.first (faults_of_body (parts_of_block l.statements) (environment_of l.environment) l.fn.walk.visible
      l.stand);
  left : l.left + l.each-index ≡ length l.statements;
}
