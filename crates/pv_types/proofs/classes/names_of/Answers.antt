use Rattle.std.proofs.Common.{◌++◌, ◌+◌, drop, sym, ◌∙◌, ap}
use Rattle.std.specs.List.{filter_map}
use Rattle.pv_ast.specs.Rules.Programs.{name_of_member}
use Rattle.pv_types.proofs.MemberNames.{names_next}
use Rattle.pv_types.proofs.classes.names_of.Goals as goal

pub loop-member-preserved : goal.loop-member-preserved
loop-member-preserved c =
    ap (λ words. words ++ filter_map name_of_member (drop (c.loop-member.member-index + 1) c.args.members.now))
    (c.in_ok-push_name.ensures)
    ∙ (sym (names_next c.args.members.now c.loop-member.member-index c.member-item.result c.loop-member.words.items
    c.name_of.result c.loop-member-test.true c.member-item.is c.name_of.ensures)
    ∙ c.loop-member.invariant)
