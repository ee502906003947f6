use Rattle.std.proofs.Common.{drop}
use Rattle.pv_types.specs.Index.{IsPlaced}
use Rattle.pv_types.proofs.class_table.places_of.Given as goal

abbrev pub invariant-loop-at : goal.invariant-loop-at
invariant-loop-at l = IsPlaced l.places.entries l.classes (drop l.at l.classes)
