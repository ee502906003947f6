-- What gaining a range comes to.
use Rattle.std.proofs.Common.{◌≡◌, ◌∙◌, sym, to_z, of_z, rules}
use mir.Syntax.{w128}
use Rattle.pv_cells.specs.declared.halt.Halt.{Halt}
use Rattle.pv_cells.proofs.Filled.{no_room, no_steps, gained_range}
use Rattle.pv_cells.proofs.filling.fill_range.Goals as goal

pub returns-then-not-has_room-clause-stops : goal.returns-then-not-has_room-clause-stops
returns-then-not-has_room-clause-stops c =
    let low : to_z w128 (of_z w128 c.args.low) ≡ c.args.low = search rules in
    let high : to_z w128 (of_z w128 c.args.high) ≡ c.args.high = search rules in
    no_room c.args.given.now c.args.kind c.args.array c.args.low c.args.high _ _ c.args.amount c.args.held.now low high
    c.args.learned.now (sym c.has_room.ensures ∙ c.if-not-has_room.true)

pub returns-in_err-take_steps-clause-stops : goal.returns-in_err-take_steps-clause-stops
returns-in_err-take_steps-clause-stops c =
    let low : to_z w128 (of_z w128 c.args.low) ≡ c.args.low = search rules in
    let high : to_z w128 (of_z w128 c.args.high) ≡ c.args.high = search rules in
    let stops = λ (h : Halt). no_steps c.args.given.now c.args.kind c.args.array c.args.low c.args.high
    (to_z w128 (of_z w128 c.args.low)) (to_z w128 (of_z w128 c.args.high)) c.args.amount c.args.held.now low high
    c.args.learned.now h (sym c.has_room.ensures ∙ c.if-not-has_room.false) in
    search (rules, stops)

pub returns-clause-goes : goal.returns-clause-goes
returns-clause-goes c =
    let low : to_z w128 (of_z w128 c.args.low) ≡ c.args.low = search rules in
    let high : to_z w128 (of_z w128 c.args.high) ≡ c.args.high = search rules in
    gained_range c.args.given.now c.args.kind c.args.array c.args.low c.args.high (to_z w128 (of_z w128 c.args.low))
    (to_z w128 (of_z w128 c.args.high)) c.args.amount c.args.held.now low high c.add_each.new.held c.args.learned.now
    c.take_steps.new.learned (sym c.has_room.ensures ∙ c.if-not-has_room.false) c.in_ok-take_steps.ensures.taken
    c.in_ok-add_each.ensures c.take_steps.ensures.lengths c.take_steps.ensures.met c.in_ok-take_steps.ensures.steps
