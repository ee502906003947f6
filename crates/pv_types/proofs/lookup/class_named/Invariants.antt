use Rattle.std.proofs.Common.{◌≡◌, drop}
use Rattle.pv_ast.specs.Rules.Lookup as rules
use Rattle.pv_types.proofs.lookup.class_named.Given as goal

abbrev pub invariant-loop-class : goal.invariant-loop-class
invariant-loop-class l = rules.class_named (drop l.class-index l.classes) l.name ≡ rules.class_named l.classes l.name
