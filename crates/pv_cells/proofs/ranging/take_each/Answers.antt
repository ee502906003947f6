-- One element more has less; at the end all have.
use Rattle.std.proofs.Common.{◌≡◌, ◌∙◌, ◌+ℤ◌, ◌-◌, ◌≤ℤ◌, sym, ap, subst, pos, ℤ, Option, inr, if◌then◌else◌, to_z, of_z, rules}
use Rattle.std.proofs.lemmas.Int.{ints}
use mir.Syntax.{w128}
use Rattle.pv_picks.specs.Judge.States as states
use Rattle.pv_cells.specs.Stores.{held_of}
use Rattle.pv_cells.proofs.Among.{one_more_put, ended_among}
use Rattle.pv_cells.proofs.ranging.take_each.Goals as goal

pub loop-index-preserved : goal.loop-index-preserved
loop-index-preserved c =
    let i : ℤ = to_z w128 c.loop-index.index-bits in
    let first : ℤ = to_z w128 (of_z w128 c.args.low) in
    let next : to_z w128 (of_z w128 (i +ℤ pos 1)) ≡ (i +ℤ pos 1) = search (rules, ints) in
    let less : states.Resource → Option states.Holding = λ r. states.holding
    (states.amount_held (held_of c.args.held.now r) - c.args.amount) (states.cell_held (held_of c.args.held.now r)) in
    let last : ℤ = to_z w128 (of_z w128 c.args.high) in
    let here : Option states.Holding = held_of c.loop-index.held (states.InElement c.args.kind c.args.array i) in
    let more =
    one_more_put c.args.kind c.args.array first i less (held_of c.loop-index.held) (held_of c.args.held.now)
    (held_of c.take.new.held) (states.holding (states.amount_held here - c.args.amount) (states.cell_held here))
    c.loop-index.invariant.0 c.loop-index.invariant.2
    (λ same. ap (λ h. states.holding (states.amount_held h - c.args.amount) (states.cell_held h)) same) c.in_ok-take.ensures in
    let P : ℤ → Type 0 = λ z. (r : states.Resource) → held_of c.take.new.held r
    ≡ (if states.is_among c.args.kind c.args.array first z r then less r else held_of c.args.held.now r) in
    let Q : ℤ → Type 0 = λ z. first ≤ℤ z in
    let U : ℤ → Type 0 = λ z. z ≤ℤ last in
    let from : first ≤ℤ i = c.loop-index.invariant.0 in
    let low : first ≤ℤ (i +ℤ pos 1) = search (rules, ints) in
    let high : (i +ℤ pos 1) ≤ℤ last = search (rules, ints) in
    (subst Q (sym next) low, inr (subst U (sym next) high), subst P (sym next) more)

pub returns : goal.returns
returns c r =
    let i : ℤ = to_z w128 c.loop-index.index-bits in
    let first : ℤ = to_z w128 (of_z w128 c.args.low) in
    let last : ℤ = to_z w128 (of_z w128 c.args.high) in
    let low : first ≡ c.args.low = search rules in
    let high : last ≡ c.args.high = search rules in
    let old : Option states.Holding = held_of c.args.held.now r in
    let less : Option states.Holding = states.holding (states.amount_held old - c.args.amount) (states.cell_held old) in
    c.loop-index.invariant.2 r
    ∙ ap (λ b. if b then less else old)
    (ended_among c.args.kind c.args.array first i last r c.loop-index.invariant.1 c.loop-index-test.false)
    ∙ ap (λ z. if states.is_among c.args.kind c.args.array z last r then less else old) low
    ∙ ap (λ z. if states.is_among c.args.kind c.args.array c.args.low z r then less else old) high
