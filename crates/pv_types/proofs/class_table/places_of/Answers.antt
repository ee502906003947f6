use Rattle.pv_types.proofs.Firsts.{placed_before}
use Rattle.pv_types.proofs.class_table.places_of.Goals as goal

pub loop-at-preserved : goal.loop-at-preserved
loop-at-preserved c =
    placed_before c.args.classes.now c.loop-at.places.entries c.insert.new.self.entries c.loop-at.at c.index-classes-at.result
    c.loop-at-test.true c.loop-at.auto.at
    c.in_ok-insert.ensures.updates.0 c.loop-at.invariant
