-- So much was there of each, or it wasn't.
use Rattle.std.proofs.Common.{◌≡◌, ◌∙◌, sym, to_z, of_z, rules}
use mir.Syntax.{w128}
use Rattle.pv_cells.proofs.Given.{short_range, given_range}
use Rattle.pv_cells.proofs.giving.give_range.Goals as goal

pub returns-then-not-has_each : goal.returns-then-not-has_each
returns-then-not-has_each c =
    let low : to_z w128 (of_z w128 c.args.low) ≡ c.args.low = search rules in
    let high : to_z w128 (of_z w128 c.args.high) ≡ c.args.high = search rules in
    short_range c.args.kind c.args.array c.args.low c.args.high _ _ c.args.amount c.args.held.now low high
    (sym c.has_each.ensures ∙ c.if-not-has_each.true)

pub returns : goal.returns
returns c =
    let low : to_z w128 (of_z w128 c.args.low) ≡ c.args.low = search rules in
    let high : to_z w128 (of_z w128 c.args.high) ≡ c.args.high = search rules in
    given_range c.args.kind c.args.array c.args.low c.args.high _ _ c.args.amount c.args.held.now c.take_each.new.held low high
    (sym c.has_each.ensures ∙ c.if-not-has_each.false) c.in_ok-take_each.ensures
