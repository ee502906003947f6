use Rattle.std.proofs.Common.{pos, [], ◌∷◌, ◌++◌, refl, sym, subst, List, ℕ}
use Rattle.pv_diff.specs.Edges.{IsNegativeRound}
use Rattle.pv_diff.proofs.Follow.{slot_of, Made, Made-more, Made-negative, Left-start, Left-goes, Left-more}
use Rattle.pv_diff.proofs.table.loop_places.Goals as goal

pub loop-step-init : goal.loop-step-init
loop-step-init c = record {
  slot = c.requires.start;
  made = (pos 0, rw c.new-places.ensures (refl, refl));
  left = Left-start c.args.edges.now c.args.table.now c.args.start c.requires.loops;
}

pub returns-then-at-start : goal.returns-then-at-start
returns-then-at-start c =
    let made = Made-more c.args.edges.now c.args.table.now c.args.start c.loop-step.at c.in-Some.cause.place c.in-Some.cause.from
    c.loop-step.places c.requires.sound c.loop-step.invariant.made c.in-Some.is in
    let round = subst (λ (z : ℕ). Made c.args.edges.now c.args.table.now c.args.start z
    (c.loop-step.places ++ c.in-Some.cause.place ∷ [])) c.if-at-start.true made in
    subst (IsNegativeRound c.args.edges.now) (sym c.in_ok-push-in-Some.ensures.ok)
    (Made-negative c.args.edges.now c.args.table.now c.args.start c.in-Some.cause.place c.loop-step.places c.requires.sound
    round)

pub unreachable-requires : goal.unreachable-requires
unreachable-requires c = Left-goes c.args.edges.now c.args.table.now c.loop-step.at c.args.start c.loop-step._step _
    c.loop-step.invariant.left c.in-None.is

pub loop-step-preserved : goal.loop-step-preserved
loop-step-preserved c = record {
  slot = slot_of c.args.edges.now c.args.table.now _ c.loop-step.at c.in-Some.cause.place c.in-Some.cause.from c.requires.sound
      c.requires.slots c.in-Some.is;
  made = subst (λ (ps : List ℕ). Made c.args.edges.now c.args.table.now c.args.start c.in-Some.cause.from ps)
      (sym c.in_ok-push-in-Some.ensures.ok) (Made-more c.args.edges.now c.args.table.now c.args.start c.loop-step.at
      c.in-Some.cause.place c.in-Some.cause.from c.loop-step.places c.requires.sound c.loop-step.invariant.made c.in-Some.is);
  left = Left-more c.args.edges.now c.args.table.now c.loop-step.at c.args.start c.in-Some.cause.from c.in-Some.cause.place
      c.loop-step._step _ c.loop-step.invariant.left c.in-Some.is c.if-at-start.false;
}
