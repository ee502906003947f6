use Rattle.std.proofs.Common.{◌≡◌, drop}
use Rattle.std.specs.List.{list_any}
use Rattle.pv_plain.specs.Olds.{old_of}
use Rattle.pv_plain.proofs.olds.+old.Given as goal

abbrev pub invariant-has_old_in_any-loop-e : goal.invariant-has_old_in_any-loop-e
invariant-has_old_in_any-loop-e l = list_any old_of (drop l.e-index l.es) ≡ list_any old_of l.es
