-- One element more has more; at the end all have.
use Rattle.std.proofs.Common.{◌≡◌, ◌∙◌, ◌+ℤ◌, ◌+◌, ◌≤◌, ◌≤ℤ◌, sym, ap, subst, pos, ℤ, Bool, true, Option, inr, if◌then◌else◌, to_z, of_z, rules}
use Rattle.std.specs.Prelude.{nat_le}
use Rattle.std.proofs.lemmas.Int.{ints}
use mir.Syntax.{w128}
use Rattle.pv_fraction.specs.Amounts.{whole}
use Rattle.pv_picks.specs.Formulas.Values.{width}
use Rattle.pv_picks.specs.Judge.Permissions.{at_all}
use Rattle.pv_picks.specs.Judge.States as states
use Rattle.pv_cells.specs.Stores.{held_of}
use Rattle.pv_cells.proofs.Among.{one_more_put, ended_among, still_old, given_alike}
use Rattle.pv_cells.proofs.Widths.{first_and_rest}
use Rattle.pv_cells.proofs.ranging.add_each.Goals as goal

pub loop-index-preserved : goal.loop-index-preserved
loop-index-preserved c =
    let i : ℤ = to_z w128 c.loop-index.index-bits in
    let first : ℤ = to_z w128 (of_z w128 c.args.low) in
    let last : ℤ = to_z w128 (of_z w128 c.args.high) in
    let next : to_z w128 (of_z w128 (i +ℤ pos 1)) ≡ (i +ℤ pos 1) = search (rules, ints) in
    let given : ℤ → states.Cell = states.FromSteps c.args.kind c.args.number in
    let test : ℤ → Bool = λ z. nat_le (states.amount_held (held_of c.args.held.now (states.InElement c.args.kind c.args.array
    z)) + c.args.amount) whole in
    let more_of : states.Resource → Option states.Holding = λ r. states.holding
    (states.amount_held (held_of c.args.held.now r) + c.args.amount)
    (states.cell_among (held_of c.args.held.now r) given r first) in
    let place : states.Resource = states.InElement c.args.kind c.args.array i in
    let here : Option states.Holding = held_of c.loop-index.held place in
    let more =
    one_more_put c.args.kind c.args.array first i more_of (held_of c.loop-index.held) (held_of c.args.held.now)
    (held_of c.add.new.held) (states.holding (states.amount_held here + c.args.amount) (states.cell_among here given place i))
    c.loop-index.invariant.0 c.loop-index.invariant.2
    (λ same. ap (λ h. states.holding (states.amount_held h + c.args.amount) (states.cell_among h given place i)) same
    ∙ ap (λ k. states.holding (states.amount_held (held_of c.args.held.now place) + c.args.amount) k)
    (given_alike (held_of c.args.held.now place) given c.args.kind c.args.array i i first)) c.in_ok-add.ensures in
    let P : ℤ → Type 0 = λ z. (r : states.Resource) → held_of c.add.new.held r
    ≡ (if states.is_among c.args.kind c.args.array first z r then more_of r else held_of c.args.held.now r) in
    let Q : ℤ → Type 0 = λ z. first ≤ℤ z in
    let U : ℤ → Type 0 = λ z. z ≤ℤ last in
    let V : ℤ → Type 0 = λ z. at_all test z (width z last) ≡ true in
    let from : first ≤ℤ i = c.loop-index.invariant.0 in
    let low : first ≤ℤ (i +ℤ pos 1) = search (rules, ints) in
    let high : (i +ℤ pos 1) ≤ℤ last = search (rules, ints) in
    let rest = first_and_rest test i last c.loop-index-test.true c.loop-index.invariant.3 in
    (subst Q (sym next) low, inr (subst U (sym next) high), subst P (sym next) more, subst V (sym next) rest.1)

pub returns : goal.returns
returns c r =
    let i : ℤ = to_z w128 c.loop-index.index-bits in
    let first : ℤ = to_z w128 (of_z w128 c.args.low) in
    let last : ℤ = to_z w128 (of_z w128 c.args.high) in
    let low : first ≡ c.args.low = search rules in
    let high : last ≡ c.args.high = search rules in
    let given : ℤ → states.Cell = states.FromSteps c.args.kind c.args.number in
    let old : Option states.Holding = held_of c.args.held.now r in
    let more_from : ℤ → Option states.Holding = λ z. states.holding (states.amount_held old + c.args.amount)
    (states.cell_among old given r z) in
    c.loop-index.invariant.2 r
    ∙ ap (λ b. if b then more_from first else old)
    (ended_among c.args.kind c.args.array first i last r c.loop-index.invariant.1 c.loop-index-test.false)
    ∙ ap (λ z. if states.is_among c.args.kind c.args.array z last r then more_from z else old) low
    ∙ ap (λ z. if states.is_among c.args.kind c.args.array c.args.low z r then more_from c.args.low else old) high

pub add-requires : goal.add-requires
add-requires c =
    let i : ℤ = to_z w128 c.loop-index.index-bits in
    let first : ℤ = to_z w128 (of_z w128 c.args.low) in
    let last : ℤ = to_z w128 (of_z w128 c.args.high) in
    let given : ℤ → states.Cell = states.FromSteps c.args.kind c.args.number in
    let test : ℤ → Bool = λ z. nat_le (states.amount_held (held_of c.args.held.now (states.InElement c.args.kind c.args.array
    z)) + c.args.amount) whole in
    let more_of : states.Resource → Option states.Holding = λ r. states.holding
    (states.amount_held (held_of c.args.held.now r) + c.args.amount)
    (states.cell_among (held_of c.args.held.now r) given r first) in
    let place : states.Resource = states.InElement c.args.kind c.args.array i in
    let same = still_old c.args.kind c.args.array first i more_of (held_of c.loop-index.held) (held_of c.args.held.now)
    c.loop-index.invariant.2 in
    let rest = first_and_rest test i last c.loop-index-test.true c.loop-index.invariant.3 in
    let fits : nat_le (states.amount_held (held_of c.args.held.now place) + c.args.amount) whole ≡ true = rest.0 in
    let room : states.amount_held (held_of c.args.held.now place) + c.args.amount ≤ whole = search rules in
    let P : Option states.Holding → Type 0 = λ h. states.amount_held h + c.args.amount ≤ whole in
    subst P (sym same) room
