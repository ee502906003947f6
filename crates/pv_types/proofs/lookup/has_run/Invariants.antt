use Rattle.std.proofs.Common.{◌≡◌, drop}
use Rattle.std.specs.List.{list_any}
use Rattle.pv_ast.specs.Rules.Lookup as rules
use Rattle.pv_types.proofs.lookup.has_run.Given as goal

abbrev pub invariant-loop-member : goal.invariant-loop-member
invariant-loop-member l = list_any rules.is_run (drop l.member-index l.class.members) ≡ list_any rules.is_run l.class.members
