use Rattle.std.proofs.lemmas.Int.{to_z-of_z}
use mir.Val.{SFits, to_z, of_z}
use mir.Syntax.{w128}
use Rattle.std.proofs.Common.{◌≡◌, rules, sym, subst, ap, ◌∙◌, ◌+◌, pos, take, Some}
use Rattle.std.proofs.lemmas.Option.{slice_get-get_or}
use Rattle.pv_linear.specs.declared.Literal.{Literal}
use Rattle.pv_linear.specs.declared.Literal.TheVariants.{AtMost}
use Rattle.pv_diff.specs.declared.table.Edge.{Edge}
use Rattle.pv_diff.specs.Edges.{edge}
use Rattle.pv_diff.specs.Slots.{AreEdges, IsEdge}
use Rattle.pv_diff.proofs.Named.{AllAtMost-at, AreEdges-more}
use Rattle.pv_diff.proofs.Written.{symbol}
use Rattle.pv_diff.proofs.slots.edges_of.Goals as goal

pub difference_of-difference-requires : goal.difference_of-difference-requires
difference_of-difference-requires c = AllAtMost-at c.args.literals.now c.loop-literal.literal-index _ c.requires.differences
    c.loop-literal-test.true

pub slot_of-requires-clause-named : goal.slot_of-requires-clause-named
slot_of-requires-clause-named c =
    let d = c.difference_of-difference.result in
    let g = slice_get-get_or c.args.literals.now c.loop-literal.literal-index (AtMost (symbol 0) (symbol 0) (pos 0))
    c.loop-literal-test.true ∙ ap (λ (l : Literal). Some l) c.difference_of-difference.ensures in
    (c.requires.named c.loop-literal.literal-index (symbol d.to) (symbol d.from) d.bound g).0

pub slot_of-requires-in-loop-literal-clause-named : goal.slot_of-requires-in-loop-literal-clause-named
slot_of-requires-in-loop-literal-clause-named c =
    let d = c.difference_of-difference.result in
    let g = slice_get-get_or c.args.literals.now c.loop-literal.literal-index (AtMost (symbol 0) (symbol 0) (pos 0))
    c.loop-literal-test.true ∙ ap (λ (l : Literal). Some l) c.difference_of-difference.ensures in
    (c.requires.named c.loop-literal.literal-index (symbol d.to) (symbol d.from) d.bound g).1

pub loop-literal-preserved : goal.loop-literal-preserved
loop-literal-preserved c =
    let d = c.difference_of-difference.result in
    let fits : SFits w128 d.bound = search rules in
    let same : to_z w128 (of_z w128 d.bound) ≡ d.bound = to_z-of_z w128 d.bound fits in
    let e : Edge = edge c.slot_of.result c.slot_of-in-loop-literal.result (to_z w128 (of_z w128 d.bound)) in
    let is : IsEdge c.args.symbols.now (AtMost (symbol d.to) (symbol d.from) d.bound) e =
    (c.slot_of.ensures, c.slot_of-in-loop-literal.ensures, same) in
    subst (AreEdges c.args.symbols.now (take (c.loop-literal.literal-index + 1) c.args.literals.now))
    (sym c.in_ok-push.ensures.items)
    (AreEdges-more c.args.symbols.now c.args.literals.now c.loop-literal.edges.items c.loop-literal.literal-index
    (AtMost (symbol 0) (symbol 0) (pos 0)) _ c.loop-literal-test.true c.loop-literal.invariant
    (subst (λ (l : Literal). IsEdge c.args.symbols.now l e) (sym c.difference_of-difference.ensures) is))
