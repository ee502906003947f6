-- One element fails, or the rest decides.
use Rattle.std.proofs.Common.{◌≡◌, ◌∙◌, ◌+◌, ◌+ℤ◌, sym, pos, ℤ, Bool, to_z, of_z, rules}
use Rattle.std.specs.Prelude.{nat_le}
use Rattle.std.proofs.lemmas.Int.{ints}
use mir.Syntax.{w128}
use Rattle.pv_fraction.specs.Amounts.{whole}
use Rattle.pv_picks.specs.Judge.States as states
use Rattle.pv_cells.specs.Stores.{held_of}
use Rattle.pv_cells.proofs.Widths.{fails_in, passes_in}
use Rattle.pv_cells.proofs.ranging.has_room.Goals as goal

pub returns-then-not-has_room_at : goal.returns-then-not-has_room_at
returns-then-not-has_room_at c =
    let test : ℤ → Bool = λ i. nat_le (states.amount_held (held_of c.args.held.now (states.InElement c.args.kind c.args.array
    i)) + c.args.amount) whole in
    let i : ℤ = to_z w128 c.loop-index.index-bits in
    let low : to_z w128 (of_z w128 c.args.low) ≡ c.args.low = search rules in
    let high : to_z w128 (of_z w128 c.args.high) ≡ c.args.high = search rules in
    fails_in test c.args.low c.args.high (to_z w128 (of_z w128 c.args.low)) (to_z w128 (of_z w128 c.args.high)) i low high
    c.loop-index-test.true (sym c.has_room_at.ensures ∙ c.if-not-has_room_at.true) c.loop-index.invariant

pub loop-index-preserved : goal.loop-index-preserved
loop-index-preserved c =
    let test : ℤ → Bool = λ i. nat_le (states.amount_held (held_of c.args.held.now (states.InElement c.args.kind c.args.array
    i)) + c.args.amount) whole in
    let i : ℤ = to_z w128 c.loop-index.index-bits in
    let next : to_z w128 (of_z w128 (i +ℤ pos 1)) ≡ (i +ℤ pos 1) = search (rules, ints) in
    passes_in test (to_z w128 (of_z w128 c.args.low)) (to_z w128 (of_z w128 c.args.high)) i (to_z w128 (of_z w128 (i +ℤ pos 1)))
    next c.loop-index-test.true (sym c.has_room_at.ensures ∙ c.if-not-has_room_at.false) c.loop-index.invariant
