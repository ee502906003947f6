use Rattle.std.proofs.Common.{◌≡◌, ◌&&◌, ◌||◌, map, drop}
use Rattle.pv_ast.specs.Rules.Faults.{least}
use Rattle.pv_ast.specs.Rules.Expressions.{checked_expression, args_meet, args_name_local, types_of, faults_of_args}
use Rattle.pv_types.specs.Sites.{around}
use Rattle.pv_types.proofs.+part.Given as goal

abbrev pub invariant-uses::arguments-loop-arg : goal.invariant-uses::arguments-loop-arg
invariant-uses::arguments-loop-arg l = record {
  meet : (l.meet && args_meet (map checked_expression (drop l.arg-index l.args)) (types_of l.left) (around l.site)
      l.visible)
      ≡ args_meet (map checked_expression l.args) (types_of l.params) (around l.site) l.fn.visible;
  local : (l.local || args_name_local (map checked_expression (drop l.arg-index l.args)) (around l.site) l.visible)
      ≡ args_name_local (map checked_expression l.args) (around l.site) l.fn.visible;
  found : least l.first (faults_of_args (map checked_expression (drop l.arg-index l.args)) (types_of l.left)
      (around l.site) l.visible l.site.context) ≡ least l.fn.first
      (faults_of_args (map checked_expression l.args) (types_of l.params) (around l.site) l.fn.visible l.site.context);
  same : l.visible ≡ l.fn.visible;
}
