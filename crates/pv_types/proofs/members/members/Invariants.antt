use Rattle.std.proofs.Common.{◌≡◌, drop}
use Rattle.pv_ast.specs.Rules.Faults.{least}
use Rattle.pv_ast.specs.Rules.Programs.{faults_of_members}
use Rattle.pv_types.specs.Environments.{environment_of}
use Rattle.pv_types.proofs.members.members.Given as goal

abbrev pub invariant-loop-each : goal.invariant-loop-each
invariant-loop-each l =
    least l.first (faults_of_members (environment_of l.environment) (drop l.each-index l.members))
    ≡ least l.fn.first (faults_of_members (environment_of l.environment) l.members)
