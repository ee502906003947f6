use Rattle.std.proofs.Common.{◌≡◌, take}
use Rattle.pv_types.proofs.class_table.entries_of.Given as goal

abbrev pub invariant-loop-class : goal.invariant-loop-class
invariant-loop-class l = l.entries.items ≡ take l.class-index l.classes
