use Rattle.std.proofs.Common.{◌≡◌, ◌++◌, map, drop}
use Rattle.pv_picks.specs.Plain.Trees.{formula_of}
use Rattle.pv_picks.specs.Elaborating.Expressions.{core_of_formula}
use Rattle.pv_plain.specs.Sights.{around, in_scope}
use Rattle.pv_plain.proofs.contracts.formulas.Given as goal

abbrev pub invariant-loop-e : goal.invariant-loop-e
invariant-loop-e l =
    map formula_of l.all ++ map (core_of_formula (around l.sight) (in_scope l.sight)) (drop l.e-index l.es)
    ≡ map (core_of_formula (around l.sight) (in_scope l.sight)) l.es
