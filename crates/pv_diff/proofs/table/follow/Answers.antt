use Rattle.std.proofs.Common.{pos, [], refl, arith}
use Rattle.pv_diff.proofs.Follow.{slot_of, Climbs-ends, Climbs-more, Climbs-loop}
use Rattle.pv_diff.proofs.table.follow.Goals as goal

pub loop-step-init : goal.loop-step-init
loop-step-init c = record { slot = c.requires.start; climb = (pos 0, [], (refl, refl), refl) }

pub returns-in-None-clause-ends : goal.returns-in-None-clause-ends
returns-in-None-clause-ends c = λ _. Climbs-ends c.args.edges.now c.args.table.now c.args.start c.loop-step.at c.loop-step._step
    c.requires.sound c.loop-step.invariant.climb c.in-None.is

pub loop-step-preserved : goal.loop-step-preserved
loop-step-preserved c = record {
  slot = slot_of c.args.edges.now c.args.table.now _ c.loop-step.at c.in-Some.cause.place c.in-Some.cause.from c.requires.sound
      c.requires.slots c.in-Some.is;
  climb = Climbs-more c.args.edges.now c.args.table.now c.args.start c.loop-step.at c.loop-step._step c.in-Some.cause.place
      c.in-Some.cause.from c.requires.sound c.loop-step.invariant.climb c.in-Some.is;
}

pub returns-clause-loops : goal.returns-clause-loops
returns-clause-loops c = Climbs-loop c.args.edges.now c.args.table.now c.args.start c.loop-step.at c.loop-step._step
    c.loop-step.invariant.climb (omega arith)
