use Rattle.std.proofs.Common.{◌≡◌, ◌++◌, drop}
use Rattle.std.specs.List.{filter_map}
use Rattle.pv_ast.specs.Rules.Programs.{name_of_member}
use Rattle.pv_types.proofs.classes.names_of.Given as goal

abbrev pub invariant-loop-member : goal.invariant-loop-member
invariant-loop-member l =
    l.words.items ++ filter_map name_of_member (drop l.member-index l.members) ≡ filter_map name_of_member l.members
