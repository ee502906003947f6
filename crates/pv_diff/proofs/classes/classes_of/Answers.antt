use Rattle.std.proofs.Common.{arith, ◌≡◌, ◌∙◌, List, ℕ, sym, subst}
use Rattle.std.proofs.lemmas.Option.{slice_get_within}
use Rattle.pv_diff.specs.Conflict.{IsClash}
use Rattle.pv_diff.specs.Classes.{class_at}
use Rattle.pv_diff.specs.Forest.{IsPath}
use Rattle.pv_diff.specs.declared.forest.Node.{Node}
use Rattle.pv_diff.proofs.Splits.{IsTwoWay-tied, AreClasses-roots, IsClash-path}
use Rattle.pv_diff.proofs.classes.classes_of.Goals as goal

pub forest_of-requires-clause-two_way : goal.forest_of-requires-clause-two_way
forest_of-requires-clause-two_way c = IsTwoWay-tied c.args.symbols.now c.args.literals.now _ _ c.in_ok-chains.ensures.tied

pub node_of-left-requires-clause-slot : goal.node_of-left-requires-clause-slot
node_of-left-requires-clause-slot c =
    let s = c.in-Some.ensures.split in
    let a = slice_get_within c.args.symbols.now c.in-Some.split.left s.left.0 s.first in
    let b = c.in_ok-chains.ensures.tied.size in
    let d = c.in_ok-forest.ensures.size in
    omega (arith, a, b, d)

pub node_of-left-requires-clause-seen : goal.node_of-left-requires-clause-seen
node_of-left-requires-clause-seen c =
    let s = c.in-Some.ensures.split in
    let a = slice_get_within c.args.symbols.now c.in-Some.split.left s.left.0 s.first in
    let b = c.in_ok-chains.ensures.tied.size in
    c.in_ok-forest.ensures.seen c.in-Some.split.left (omega (arith, a, b))

pub node_of-right-requires-clause-slot : goal.node_of-right-requires-clause-slot
node_of-right-requires-clause-slot c =
    let s = c.in-Some.ensures.split in
    let a = slice_get_within c.args.symbols.now c.in-Some.split.right s.right.0 s.second in
    let b = c.in_ok-chains.ensures.tied.size in
    let d = c.in_ok-forest.ensures.size in
    omega (arith, a, b, d)

pub node_of-right-requires-clause-seen : goal.node_of-right-requires-clause-seen
node_of-right-requires-clause-seen c =
    let s = c.in-Some.ensures.split in
    let a = slice_get_within c.args.symbols.now c.in-Some.split.right s.right.0 s.second in
    let b = c.in_ok-chains.ensures.tied.size in
    c.in_ok-forest.ensures.seen c.in-Some.split.right (omega (arith, a, b))

pub returns-in-Some : goal.returns-in-Some
returns-in-Some c =
    let nodes = c.in_ok-forest.forest.nodes.items in
    let split = c.in-Some.split in
    let path = subst (λ (ns : List Node). IsPath ns c.node_of-left.result c.node_of-right.result
    c.in_ok-places-in-Some.places.items) c.deref-in-Some.ensures.value c.in_ok-places-in-Some.ensures in
    subst (IsClash c.args.literals.now) (sym (c.from_vec.ensures ∙ c.in_ok-push-in-Some.ensures.items))
    (IsClash-path c.args.symbols.now c.args.literals.now _ _ nodes c.in_ok-forest.forest.seen.items split.place split.left
    split.right c.node_of-left.result c.node_of-right.result c.in_ok-places-in-Some.places.items
    c.in_ok-chains.ensures.tied c.in_ok-forest.ensures.whole.forest c.in_ok-forest.ensures.size c.in-Some.ensures.split
    c.node_of-left.ensures c.node_of-right.ensures path)

pub returns : goal.returns
returns c =
    AreClasses-roots c.args.symbols.now c.args.literals.now _ _ c.in_ok-forest.forest.nodes.items c.in_ok-forest.forest.seen.items
    c.in_ok-classes.classes.items
    c.in_ok-chains.ensures.tied c.in_ok-forest.ensures.whole c.in_ok-forest.ensures.size c.in_ok-classes.ensures.size
    c.in_ok-classes.ensures.roots
    (λ p k z s e. c.in-None.ensures.none p k z s
    (subst (λ (q : List ℕ). class_at q k ≡ class_at q z) (sym c.deref.ensures.value) e))
