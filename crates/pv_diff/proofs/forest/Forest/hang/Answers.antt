use Rattle.std.proofs.Common.{arith, None, sym, ap, subst, ◌∙◌}
use Rattle.std.proofs.lemmas.List.{get_or_read}
use Rattle.pv_diff.specs.declared.chains.End.{End}
use Rattle.pv_diff.specs.Chains.{no_end, HasEnd}
use Rattle.pv_diff.specs.Forest.{HasRoot, slot_at}
use Rattle.pv_diff.proofs.Growth.{HasRoot-seen, IsGrowing-hung, Keeps-hung, HasRoot-last, hung}
use Rattle.pv_diff.proofs.forest.Forest.hang.Goals as goal

pub index-requires : goal.index-requires
index-requires c =
    let ends = c.args.chains.now.ends.items in
    let end = get_or_read ends c.args.index c.index-end.result.now c.requires.index c.index-end.ensures no_end in
    let same = ap (λ (n : End). n.to) end in
    let a = c.requires.two_way.below _ _ _ c.requires.joined in
    let b = c.args.self.now.seen.ok.0 in
    omega (arith, same, a, b)

pub returns-in-Some-clause-rooted : goal.returns-in-Some-clause-rooted
returns-in-Some-clause-rooted c =
    let ends = c.args.chains.now.ends.items in
    let first = c.args.chains.now.first.items in
    let ns = c.args.self.now.nodes.items in
    let seen = c.args.self.now.seen.items in
    let n = c.index-end.result.now in
    let end = get_or_read ends c.args.index n c.requires.index c.index-end.ensures no_end in
    let joined = subst (λ (e : End). HasEnd ends first (slot_at ns c.args.at) e.to e.place) (sym end) c.requires.joined in
    let fits = c.requires.two_way.below _ _ _ joined in
    let there = sym (get_or_read seen n.to c.index.result.now fits c.index.ensures None) ∙ c.in-Some.is in
    subst (λ (e : End). HasRoot ns seen e.to c.args.root) end
    (HasRoot-seen ends first ns seen c.args.at c.args.root n.to n.place c.in-Some.field-0 c.requires.two_way c.requires.growing
    c.requires.at joined there)

pub attach-requires : goal.attach-requires
attach-requires c =
    let ends = c.args.chains.now.ends.items in
    let end = get_or_read ends c.args.index c.index-end.result.now c.requires.index c.index-end.ensures no_end in
    let joined = subst (λ (e : End). HasEnd ends c.args.chains.now.first.items (slot_at c.args.self.now.nodes.items c.args.at)
    e.to e.place) (sym end) c.requires.joined in
    record { slot = c.requires.two_way.below _ _ _ joined }

pub returns-in_ok-attach-in-None-clause-growing : goal.returns-in_ok-attach-in-None-clause-growing
returns-in_ok-attach-in-None-clause-growing c =
    let ends = c.args.chains.now.ends.items in
    let first = c.args.chains.now.first.items in
    let ns = c.args.self.now.nodes.items in
    let seen = c.args.self.now.seen.items in
    let n = c.index-end.result.now in
    let end = get_or_read ends c.args.index n c.requires.index c.index-end.ensures no_end in
    let joined = subst (λ (e : End). HasEnd ends first (slot_at ns c.args.at) e.to e.place) (sym end) c.requires.joined in
    let fits = c.requires.two_way.below _ _ _ joined in
    let fresh = sym (get_or_read seen n.to c.index.result.now fits c.index.ensures None) ∙ c.in-None.is in
    IsGrowing-hung ends first ns seen c.args.at c.args.root n.to n.place c.requires.growing c.requires.at joined
    c.attach.new.self.nodes.items c.attach.new.self.seen.items fits fresh c.in_ok-attach-in-None.ensures.nodes
    c.in_ok-attach-in-None.ensures.seen

pub returns-in_ok-attach-in-None-clause-keeps : goal.returns-in_ok-attach-in-None-clause-keeps
returns-in_ok-attach-in-None-clause-keeps c =
    let ends = c.args.chains.now.ends.items in
    let first = c.args.chains.now.first.items in
    let ns = c.args.self.now.nodes.items in
    let seen = c.args.self.now.seen.items in
    let n = c.index-end.result.now in
    let end = get_or_read ends c.args.index n c.requires.index c.index-end.ensures no_end in
    let joined = subst (λ (e : End). HasEnd ends first (slot_at ns c.args.at) e.to e.place) (sym end) c.requires.joined in
    let fits = c.requires.two_way.below _ _ _ joined in
    let fresh = sym (get_or_read seen n.to c.index.result.now fits c.index.ensures None) ∙ c.in-None.is in
    Keeps-hung ends first ns seen c.args.at c.args.root n.to n.place c.requires.growing c.requires.at joined
    c.attach.new.self.nodes.items c.attach.new.self.seen.items fits fresh c.in_ok-attach-in-None.ensures.nodes
    c.in_ok-attach-in-None.ensures.seen

pub returns-in_ok-attach-in-None-clause-rooted : goal.returns-in_ok-attach-in-None-clause-rooted
returns-in_ok-attach-in-None-clause-rooted c =
    let ends = c.args.chains.now.ends.items in
    let n = c.index-end.result.now in
    let end = get_or_read ends c.args.index n c.requires.index c.index-end.ensures no_end in
    let joined = subst (λ (e : End). HasEnd ends c.args.chains.now.first.items (slot_at c.args.self.now.nodes.items c.args.at)
    e.to e.place) (sym end) c.requires.joined in
    subst (λ (e : End). HasRoot c.attach.new.self.nodes.items c.attach.new.self.seen.items e.to c.args.root) end
    (HasRoot-last c.args.self.now.nodes.items c.attach.new.self.nodes.items c.args.self.now.seen.items
    c.attach.new.self.seen.items (hung n.to c.args.root n.place c.args.at)
    (c.requires.two_way.below _ _ _ joined) c.in_ok-attach-in-None.ensures.nodes c.in_ok-attach-in-None.ensures.seen)
