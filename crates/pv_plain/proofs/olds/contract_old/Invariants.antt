use Rattle.std.proofs.Common.{◌≡◌, drop}
use Rattle.std.specs.List.{list_any}
use Rattle.pv_picks.specs.Elaborating.Expressions.{has_old}
use Rattle.pv_picks.specs.Elaborating.Statements.{contract_has_old}
use Rattle.pv_plain.proofs.olds.contract_old.Given as goal

abbrev pub invariant-loop-clause : goal.invariant-loop-clause
invariant-loop-clause l =
    list_any (λ clause. has_old clause.formula) (drop l.clause-index l.contract.clauses) ≡ contract_has_old l.contract
