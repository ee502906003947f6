use Rattle.std.proofs.Common.{◌≡◌, map, take}
use Rattle.pv_types.proofs.classes.class_names.Given as goal

abbrev pub invariant-loop-class : goal.invariant-loop-class
invariant-loop-class l = l.words.items ≡ map (λ c. c.name) (take l.class-index l.classes)
