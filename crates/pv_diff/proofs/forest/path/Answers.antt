use Rattle.std.proofs.Common.{arith, ◌∙◌, sym, subst}
use Rattle.pv_diff.specs.Forest.{Ascent}
use Rattle.pv_diff.proofs.Ascents.{Ascent-more}
use Rattle.pv_diff.proofs.forest.path.Goals as goal

pub loop-left-preserved-then-left-right : goal.loop-left-preserved-then-left-right
loop-left-preserved-then-left-right c =
    let ns = c.args.nodes.now in
    let i = c.loop-left.invariant in
    let link = c.link_of-link.result in
    let falls = c.requires.trees.falls c.loop-left.right link.place link.parent c.link_of-link.ensures in
    let right = i.right in
    record {
      left = i.left;
      right = omega (arith, falls, right);
      same = i.same ∙ sym (c.requires.trees.stays c.loop-left.right link.place link.parent c.link_of-link.ensures);
      up = i.up;
      down = subst (Ascent ns c.args.to link.parent) (sym c.in_ok-push.ensures.items)
          (Ascent-more ns c.args.to c.loop-left.right link.parent link.place c.loop-left.back.items i.down
          c.link_of-link.ensures);
    }

pub loop-left-preserved : goal.loop-left-preserved
loop-left-preserved c =
    let ns = c.args.nodes.now in
    let i = c.loop-left.invariant in
    let link = c.link_of-link-else-left-right.result in
    let is = c.link_of-link-else-left-right.ensures in
    let falls = c.requires.trees.falls c.loop-left.left link.place link.parent is in
    let left = i.left in
    record {
      left = omega (arith, falls, left);
      right = i.right;
      same = c.requires.trees.stays c.loop-left.left link.place link.parent is ∙ i.same;
      up = subst (Ascent ns c.args.from link.parent) (sym c.in_ok-push-2.ensures.items)
          (Ascent-more ns c.args.from c.loop-left.left link.parent link.place c.loop-left.places.items i.up is);
      down = i.down;
    }
