use Rattle.std.proofs.Common.{◌≡◌, ◌++◌, map, drop}
use Rattle.pv_picks.specs.Elaborating.Statements.{elaborated_statement, assigned_in}
use Rattle.pv_plain.proofs.assigning.+assigned.Given as goal

abbrev pub invariant-add_all_assigned-loop-each : goal.invariant-add_all_assigned-loop-each
invariant-add_all_assigned-loop-each l =
    l.names.items ++ assigned_in (map elaborated_statement (drop l.each-index l.body))
    ≡ l.fn.names.items ++ assigned_in (map elaborated_statement l.body)
