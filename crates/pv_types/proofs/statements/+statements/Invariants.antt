use Rattle.std.proofs.Common.{◌≡◌, drop}
use Rattle.pv_ast.specs.Rules.Faults.{least}
use Rattle.pv_ast.specs.Rules.Statements.{parts_of_block, faults_of_statements, messages_of_statements}
use Rattle.pv_types.specs.Growth.{Extends}
use Rattle.pv_types.specs.Environments.{environment_of}
use Rattle.pv_types.specs.Walks.{messages_in}
use Rattle.pv_types.proofs.statements.+statements.Given as goal

abbrev pub invariant-block-loop-each : goal.invariant-block-loop-each
invariant-block-loop-each l = record {
  found : least l.walk.first (faults_of_statements (parts_of_block (drop l.each-index l.statements))
      (environment_of l.environment) l.walk.visible l.stand)
      ≡ least l.fn.walk.first (faults_of_statements (parts_of_block l.statements) (environment_of l.environment) l.fn.walk.visible
      l.stand);
  extends : Extends l.fn.walk.visible l.walk.visible;
  messages : messages_of_statements (parts_of_block (drop l.each-index l.statements)) (messages_in l.walk)
      ≡ messages_of_statements (parts_of_block l.statements) (messages_in l.fn.walk);
}
