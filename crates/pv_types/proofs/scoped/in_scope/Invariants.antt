use Rattle.std.proofs.Common.{◌≡◌, drop}
use Rattle.pv_ast.specs.Rules.Scoping.{declared_as}
use Rattle.pv_types.specs.Bounds.{visible_of}
use Rattle.pv_types.proofs.scoped.in_scope.Given as goal

abbrev pub invariant-loop-var : goal.invariant-loop-var
invariant-loop-var l = declared_as (visible_of (drop l.var-index l.vars)) l.name ≡ declared_as (visible_of l.vars) l.name
