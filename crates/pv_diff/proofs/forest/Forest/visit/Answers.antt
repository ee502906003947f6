use Rattle.std.proofs.Common.{refl, arith, ◌≡◌, ◌<◌, length, ℕ, None, ap, sym, subst, ◌∙◌}
use Rattle.std.proofs.lemmas.List.{get_or_read}
use Rattle.pv_diff.specs.declared.chains.End.{End}
use Rattle.pv_diff.specs.declared.forest.Node.{Node}
use Rattle.pv_diff.specs.Chains.{no_end, end_at, first_at, HasEnd}
use Rattle.pv_diff.specs.Forest.{no_node, slot_at}
use Rattle.pv_diff.proofs.Trees.{Keeps-refl, Keeps-trans}
use Rattle.pv_diff.proofs.Growth.{Visited, left_of, left_of-falls, slot_within, Visited-start, Visited-more, HasEnd-visited, IsGrowing-visited}
use Rattle.pv_diff.proofs.forest.Forest.visit.Goals as goal

pub index-next-requires : goal.index-next-requires
index-next-requires c =
    let ns = c.args.self.now.nodes.items in
    let same : c.index.result.now.slot ≡ slot_at ns c.args.at =
    ap (λ (n : Node). n.slot) (get_or_read ns c.args.at c.index.result.now c.requires.at c.index.ensures no_node) in
    let lt = slot_within _ _ ns c.args.self.now.seen.items c.args.at c.requires.growing.forest c.requires.at in
    let size = c.requires.size in
    let len = c.args.chains.now.first.ok.0 in
    omega (arith, same, lt, size, len)

pub loop-next-init : goal.loop-next-init
loop-next-init c =
    let ns = c.args.self.now.nodes.items in
    let first = c.args.chains.now.first.items in
    let same : c.index.result.now.slot ≡ slot_at ns c.args.at =
    ap (λ (n : Node). n.slot) (get_or_read ns c.args.at c.index.result.now c.requires.at c.index.ensures no_node) in
    let lt = slot_within _ _ ns c.args.self.now.seen.items c.args.at c.requires.growing.forest c.requires.at in
    let fits : c.index.result.now.slot < length first = (let size = c.requires.size in omega (arith, same, lt, size)) in
    let next : c.index-next.result.now ≡ first_at first (slot_at ns c.args.at) =
    get_or_read first c.index.result.now.slot c.index-next.result.now fits c.index-next.ensures None
    ∙ ap (first_at first) same in
    record {
      growing = c.requires.growing;
      keeps = Keeps-refl ns c.args.self.now.seen.items;
      visited = Visited-start c.args.chains.now.ends.items first ns c.args.self.now.seen.items (slot_at ns c.args.at) c.args.root
          c.index-next.result.now c.requires.chains next;
    }

pub hang-requires-clause-index : goal.hang-requires-clause-index
hang-requires-clause-index c = c.loop-next.invariant.visited.inside c.in-Some.index c.in-Some.is

pub hang-requires-clause-joined : goal.hang-requires-clause-joined
hang-requires-clause-joined c =
    let ends = c.args.chains.now.ends.items in
    let first = c.args.chains.now.first.items in
    let n : End = end_at ends c.in-Some.index in
    let same : slot_at c.loop-next.self.nodes.items c.args.at ≡ slot_at c.args.self.now.nodes.items c.args.at =
    ap (λ (n : Node). n.slot) (c.loop-next.invariant.keeps.nodes c.args.at c.requires.at) in
    subst (λ (k : ℕ). HasEnd ends first k n.to n.place) (sym same)
    (HasEnd-visited ends first c.loop-next.self.nodes.items c.loop-next.self.seen.items
    (slot_at c.args.self.now.nodes.items c.args.at) c.args.root c.in-Some.index c.loop-next.next n c.in-Some.is refl
    c.loop-next.invariant.visited)

pub loop-next-smaller : goal.loop-next-smaller
loop-next-smaller c =
    let v = c.loop-next.invariant.visited in
    let ends = c.args.chains.now.ends.items in
    let end = get_or_read ends c.in-Some.index c.index-in-Some.result.now (v.inside c.in-Some.index c.in-Some.is)
    c.index-in-Some.ensures no_end in
    subst (λ (n : End). left_of n.next < left_of c.loop-next.next) (sym end)
    (left_of-falls ends c.args.chains.now.first.items c.in-Some.index c.loop-next.next c.requires.chains c.in-Some.is)

pub loop-next-preserved : goal.loop-next-preserved
loop-next-preserved c =
    let v = c.loop-next.invariant.visited in
    let ends = c.args.chains.now.ends.items in
    let first = c.args.chains.now.first.items in
    let slot = slot_at c.args.self.now.nodes.items c.args.at in
    let ns = c.loop-next.self.nodes.items in
    let ms = c.hang.new.self.nodes.items in
    let seen = c.loop-next.self.seen.items in
    let now = c.hang.new.self.seen.items in
    let end = get_or_read ends c.in-Some.index c.index-in-Some.result.now (v.inside c.in-Some.index c.in-Some.is)
    c.index-in-Some.ensures no_end in
    let more = Visited-more ends first ns ms seen now slot c.args.root c.in-Some.index c.loop-next.next c.requires.chains
    c.loop-next.invariant.growing.forest c.in_ok-hang.ensures.keeps c.in-Some.is c.in_ok-hang.ensures.rooted v in
    record {
      growing = c.in_ok-hang.ensures.growing;
      keeps = Keeps-trans c.args.self.now.nodes.items ns ms c.args.self.now.seen.items seen now c.loop-next.invariant.keeps
          c.in_ok-hang.ensures.keeps;
      visited = subst (λ (n : End). Visited ends first ms now slot c.args.root n.next) (sym end) more;
    }

pub returns-clause-growing : goal.returns-clause-growing
returns-clause-growing c =
    let ns = c.loop-next.self.nodes.items in
    let keeps = c.loop-next.invariant.keeps in
    let same : slot_at ns c.args.at ≡ slot_at c.args.self.now.nodes.items c.args.at =
    ap (λ (n : Node). n.slot) (keeps.nodes c.args.at c.requires.at) in
    let at = c.requires.at in
    let longer = keeps.longer in
    IsGrowing-visited c.args.chains.now.ends.items c.args.chains.now.first.items ns c.loop-next.self.seen.items c.args.at
    c.args.root (slot_at c.args.self.now.nodes.items c.args.at) c.loop-next.next
    c.loop-next.invariant.growing (omega (arith, at, longer)) same c.in_default.is c.loop-next.invariant.visited
