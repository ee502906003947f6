use Rattle.std.proofs.Common.{arith, ◌≡◌, length}
use Rattle.pv_diff.proofs.Trees.{Keeps-refl, Keeps-trans}
use Rattle.pv_diff.proofs.Growth.{planted, IsGrowing-planted, Keeps-planted, IsWhole-grown, HasRoot-last}
use Rattle.pv_diff.proofs.forest.Forest.grow.Goals as goal

pub loop-at-init : goal.loop-at-init
loop-at-init c =
    let ns = c.args.self.now.nodes.items in
    let seen = c.args.self.now.seen.items in
    let root : c.len-root.result ≡ length ns =
    (let a = c.len-root.ensures in let b = c.args.self.now.nodes.ok.0 in omega (arith, a, b)) in
    let kept = Keeps-planted _ _ ns c.attach.new.self.nodes.items seen c.attach.new.self.seen.items
    (planted c.args.slot c.len-root.result) c.requires.whole.forest c.requires.slot c.requires.fresh
    c.in_ok-attach.ensures.nodes c.in_ok-attach.ensures.seen in
    let longer = kept.longer in
    record {
      growing = IsGrowing-planted _ _ ns c.attach.new.self.nodes.items seen c.attach.new.self.seen.items c.args.slot
          c.len-root.result c.requires.whole c.requires.slot c.requires.fresh c.requires.front root c.in_ok-attach.ensures.nodes
          c.in_ok-attach.ensures.seen;
      keeps = Keeps-refl c.attach.new.self.nodes.items c.attach.new.self.seen.items;
      within = omega (arith, root, longer);
    }

pub returns-clause-whole : goal.returns-clause-whole
returns-clause-whole c =
    let ns = c.loop-at.self.nodes.items in
    let end : c.loop-at.at ≡ length ns = (let a = c.len.ensures in let b = c.loop-at.self.nodes.ok.0 in let d =
    c.loop-at-test.false in let e = c.loop-at.invariant.within in omega (arith, a, b, d, e)) in
    IsWhole-grown _ _ ns c.loop-at.self.seen.items c.loop-at.at c.len-root.result c.loop-at.invariant.growing end

pub returns-clause-keeps : goal.returns-clause-keeps
returns-clause-keeps c =
    let ns = c.args.self.now.nodes.items in
    let seen = c.args.self.now.seen.items in
    let kept = Keeps-planted _ _ ns c.attach.new.self.nodes.items seen c.attach.new.self.seen.items
    (planted c.args.slot c.len-root.result) c.requires.whole.forest c.requires.slot c.requires.fresh
    c.in_ok-attach.ensures.nodes c.in_ok-attach.ensures.seen in
    Keeps-trans ns c.attach.new.self.nodes.items c.loop-at.self.nodes.items seen c.attach.new.self.seen.items
    c.loop-at.self.seen.items kept c.loop-at.invariant.keeps

pub returns-clause-seen : goal.returns-clause-seen
returns-clause-seen c =
    let ns = c.args.self.now.nodes.items in
    let last = HasRoot-last ns c.attach.new.self.nodes.items c.args.self.now.seen.items c.attach.new.self.seen.items
    (planted c.args.slot c.len-root.result) c.requires.slot c.in_ok-attach.ensures.nodes c.in_ok-attach.ensures.seen in
    (last.node, c.loop-at.invariant.keeps.slots c.args.slot last.node last.seen_there)
