use Rattle.std.proofs.Common.{◌≡◌, drop}
use Rattle.std.specs.List.{list_any}
use Rattle.pv_picks.specs.Elaborating.Expressions.{has_old}
use Rattle.pv_plain.proofs.olds.any_has_old.Given as goal

abbrev pub invariant-loop-e : goal.invariant-loop-e
invariant-loop-e l = list_any has_old (drop l.e-index l.es) ≡ list_any has_old l.es
