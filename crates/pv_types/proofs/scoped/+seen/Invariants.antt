use Rattle.std.proofs.Common.{◌≡◌, ◌&&◌, ◌||◌, map, drop}
use Rattle.pv_ast.specs.Rules.Expressions.{checked_expression, args_meet, args_name_local, types_of}
use Rattle.pv_ast.specs.Rules.Programs.{environment_in}
use Rattle.pv_types.specs.Bounds.{visible_under}
use Rattle.pv_types.proofs.scoped.+seen.Given as goal

abbrev pub invariant-arguments-loop-arg : goal.invariant-arguments-loop-arg
invariant-arguments-loop-arg l = record {
  meet : (l.meet && args_meet (map checked_expression (drop l.arg-index l.args)) (types_of l.left)
      (environment_in l.program l.scope)
      (visible_under l.scope l.bounds)) ≡ args_meet (map checked_expression l.args) (types_of l.params)
      (environment_in l.program l.scope)
      (visible_under l.scope l.bounds);
  local : (l.local || args_name_local (map checked_expression (drop l.arg-index l.args)) (environment_in l.program l.scope)
      (visible_under l.scope l.bounds)) ≡ args_name_local (map checked_expression l.args) (environment_in l.program l.scope)
      (visible_under l.scope l.bounds);
}
