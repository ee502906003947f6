use Rattle.std.proofs.Common.{◌≡◌, ◌++◌, map, drop}
use Rattle.pv_picks.specs.Plain.Trees.{formula_of}
use Rattle.pv_picks.specs.Elaborating.Expressions.{core_of_formula}
use Rattle.pv_picks.specs.Elaborating.Statements.{formulas_at}
use Rattle.pv_plain.specs.Clauses.{stands}
use Rattle.pv_plain.specs.Sights.{around, in_scope}
use Rattle.pv_plain.proofs.contracts.condition.Given as goal

abbrev pub invariant-loop-clause : goal.invariant-loop-clause
invariant-loop-clause l =
    map formula_of l.all ++ map (core_of_formula (around l.sight) (in_scope l.sight))
    (formulas_at (stands l.before) (drop l.clause-index l.clauses))
    ≡ map (core_of_formula (around l.sight) (in_scope l.sight)) (formulas_at (stands l.before) l.clauses)
