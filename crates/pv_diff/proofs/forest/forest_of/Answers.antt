use Rattle.std.proofs.Common.{arith, ◌∙◌, sym, subst, inl, inr}
use Rattle.pv_diff.specs.Forest.{IsSeen}
use Rattle.pv_diff.proofs.Growth.{IsWhole-start}
use Rattle.pv_diff.proofs.Loops.{same_or_other}
use Rattle.pv_diff.proofs.forest.forest_of.Goals as goal

pub loop-slot-init : goal.loop-slot-init
loop-slot-init c = record {
  whole = IsWhole-start _ _ c.in_ok-forest.forest.nodes.items c.in_ok-forest.forest.seen.items c.in_ok-forest.ensures.nodes
      c.in_ok-forest.ensures.seen;
  size = (let a = c.in_ok-forest.ensures.size in let b = c.len.ensures in let d = c.args.chains.now.first.ok.0 in
      omega (arith, a, b, d));
  seen = λ k lt. absurd (omega arith);
}

pub reach-requires-clause-front : goal.reach-requires-clause-front
reach-requires-clause-front c = λ lt. let s = c.loop-slot.invariant.seen 0 lt in let r =
    c.loop-slot.invariant.whole.forest.inside 0 s.0 s.1 in omega (arith, r)

pub loop-slot-preserved : goal.loop-slot-preserved
loop-slot-preserved c = record {
  whole = c.in_ok-reach.ensures.whole;
  size = c.in_ok-reach.ensures.keeps.size ∙ c.loop-slot.invariant.size;
  seen = λ k lt. elim (same_or_other k c.loop-slot.slot) [
    | inl e ↦ subst (IsSeen c.reach.new.self.seen.items) (sym e) c.in_ok-reach.ensures.seen
    | inr ne ↦ let s = c.loop-slot.invariant.seen k (omega arith) in (s.0, c.in_ok-reach.ensures.keeps.slots k s.0 s.1)
  ];
}
