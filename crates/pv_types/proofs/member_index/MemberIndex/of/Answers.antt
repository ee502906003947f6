use Rattle.std.proofs.Common.{◌≡◌, sym, subst, drop, arith}
use Rattle.pv_types.specs.Index.{IsIndexOf}
use Rattle.pv_types.proofs.Firsts.{drop_before}
use Rattle.pv_types.proofs.member_index.MemberIndex.of.Goals as goal

pub loop-at-preserved : goal.loop-at-preserved
loop-at-preserved c =
    let members = c.args.members.now in
    subst (IsIndexOf c.put_first.new.self) (sym (drop_before members c.loop-at.at c.index-members-at.result c.index-members-at.is
    c.loop-at-test.true c.loop-at.auto.at))
    (c.in_ok-put_first.ensures (drop c.loop-at.at members) c.loop-at.invariant)

pub returns : goal.returns
returns c =
    let none : c.loop-at.at ≡ 0 = omega arith in
    subst (λ at. IsIndexOf c.loop-at.index (drop at c.args.members.now)) none c.loop-at.invariant
