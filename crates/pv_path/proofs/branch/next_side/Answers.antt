use Rattle.std.proofs.Common.{arith, ◌-◌, ◌∙◌, sym}
use Rattle.pv_path.proofs.BranchLemmas.{next_at, span_within}
use Rattle.pv_path.proofs.branch.next_side.Goals as goal

pub turned_over-requires : goal.turned_over-requires
turned_over-requires c = let s = c.loop-place.auto.place in let t = c.loop-place-test.true in
    span_within c.args.branches.now (c.loop-place.place - 1) _ _ (omega (arith, s, t)) c.requires

pub returns-in-Some-clause-some : goal.returns-in-Some-clause-some
returns-in-Some-clause-some c = next_at c.args.branches.now c.loop-place.place _ c.in-Some.other c.loop-place-test.true
    c.loop-place.auto.place (sym c.turned_over.ensures ∙ c.in-Some.is) c.loop-place.invariant
