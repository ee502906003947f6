use Rattle.std.proofs.Common.{◌≡◌, drop}
use Rattle.pv_ast.specs.Rules.Lookup as rules
use Rattle.pv_types.proofs.lookup.predicate_named.Given as goal

abbrev pub invariant-loop-member : goal.invariant-loop-member
invariant-loop-member l = rules.predicate_named (drop l.member-index l.members) l.name ≡ rules.predicate_named l.members l.name
