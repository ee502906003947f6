use Rattle.std.proofs.Common.{◌≡◌, drop}
use Rattle.pv_ast.specs.Rules.Faults.{least}
use Rattle.pv_ast.specs.Rules.Programs.{faults_of_params, with_params}
use Rattle.pv_types.specs.Environments.{environment_of}
use Rattle.pv_types.proofs.members.params.Given as goal

abbrev pub invariant-loop-param : goal.invariant-loop-param
invariant-loop-param l = record {
  found : least l.first (faults_of_params (environment_of l.environment) l.visible (drop l.param-index l.params))
      ≡ least l.fn.first (faults_of_params (environment_of l.environment) l.fn.visible l.params);
  declared : with_params l.visible (drop l.param-index l.params) ≡ with_params l.fn.visible l.params;
}
