use Rattle.std.proofs.Common.{◌≡◌, drop}
use Rattle.pv_ast.specs.Rules.Lookup as rules
use Rattle.pv_types.proofs.lookup.method_named.Given as goal

abbrev pub invariant-loop-member : goal.invariant-loop-member
invariant-loop-member l = rules.method_named (drop l.member-index l.members) l.name ≡ rules.method_named l.members l.name
