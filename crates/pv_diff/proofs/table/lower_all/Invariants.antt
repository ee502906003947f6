use Rattle.pv_diff.proofs.Rounds.{Gone}
use Rattle.pv_diff.proofs.table.lower_all.Given as goal

abbrev pub invariant-loop-step : goal.invariant-loop-step
invariant-loop-step l = Gone l.backward l.edges l.initial.table l.table l.last l.step
