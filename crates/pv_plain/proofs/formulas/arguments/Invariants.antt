use Rattle.std.proofs.Common.{◌≡◌, ◌++◌, map, drop}
use Rattle.pv_picks.specs.Plain.Trees.{expressions_of}
use Rattle.pv_picks.specs.Elaborating.Expressions.{core_of_expression}
use Rattle.pv_plain.specs.Sights.{around, in_scope}
use Rattle.pv_plain.proofs.formulas.arguments.Given as goal

abbrev pub invariant-loop-arg : goal.invariant-loop-arg
invariant-loop-arg l =
    expressions_of l.all ++ map (core_of_expression (around l.sight) (in_scope l.sight)) (drop l.arg-index l.args)
    ≡ map (core_of_expression (around l.sight) (in_scope l.sight)) l.args
