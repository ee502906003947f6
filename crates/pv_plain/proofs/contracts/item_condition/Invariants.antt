use Rattle.std.proofs.Common.{◌≡◌, drop}
use Rattle.pv_picks.specs.Plain.Trees.{items_of}
use Rattle.pv_picks.specs.Elaborating.Expressions.{together}
use Rattle.pv_picks.specs.Elaborating.Statements.{formulas_at, core_of_all_items}
use Rattle.pv_plain.specs.Clauses.{stands}
use Rattle.pv_plain.specs.Sights.{around, in_scope}
use Rattle.pv_plain.proofs.contracts.item_condition.Given as goal

abbrev pub invariant-loop-clause : goal.invariant-loop-clause
invariant-loop-clause l =
    together (items_of l.all) (core_of_all_items l.name (around l.sight) (in_scope l.sight)
    (formulas_at (stands l.before) (drop l.clause-index l.clauses)))
    ≡ core_of_all_items l.name (around l.sight) (in_scope l.sight) (formulas_at (stands l.before) l.clauses)
