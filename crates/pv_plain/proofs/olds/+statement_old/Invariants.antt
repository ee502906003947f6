use Rattle.std.proofs.Common.{◌≡◌, map, drop}
use Rattle.pv_picks.specs.Elaborating.Statements.{elaborated_statement, old_in}
use Rattle.pv_plain.proofs.olds.+statement_old.Given as goal

abbrev pub invariant-body_old-loop-each : goal.invariant-body_old-loop-each
invariant-body_old-loop-each l =
    old_in (map elaborated_statement (drop l.each-index l.body)) ≡ old_in (map elaborated_statement l.body)
