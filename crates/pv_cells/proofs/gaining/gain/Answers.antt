-- What gaining comes to: too much, a value that is picked, or more of what is held.
use Rattle.std.proofs.Common.{◌≡◌, ◌+◌, true, false, rules, arith}
use Rattle.std.proofs.lemmas.Grind.{common_steps}
use Rattle.std.specs.Prelude.{nat_le}
use Rattle.pv_fraction.specs.Amounts.{whole}
use Rattle.pv_picks.specs.Judge.States.{amount_held}
use Rattle.pv_cells.specs.declared.halt.Halt.{Halt}
use Rattle.pv_cells.specs.Keys.{resource_of}
use Rattle.pv_cells.specs.Stores.{held_of, cell_of}
use Rattle.pv_cells.proofs.Gains.{too_much, unpicked, gained_more, gained_new}
use Rattle.pv_cells.proofs.gaining.gain.Goals as goal

pub returns-then-not-fits_with-clause-stops : goal.returns-then-not-fits_with-clause-stops
returns-then-not-fits_with-clause-stops c =
    let test : nat_le (amount_held (held_of c.args.held.now (resource_of c.args.resource)) + c.args.amount) whole ≡ false =
    grind (arith, common_steps) in
    too_much _ _ _ _ c.args.held.now c.args.learned.now test

pub returns-in_err-pick_value-clause-stops : goal.returns-in_err-pick_value-clause-stops
returns-in_err-pick_value-clause-stops c =
    let test : nat_le (amount_held (held_of c.args.held.now (resource_of c.args.resource)) + c.args.amount) whole ≡ true =
    grind (arith, common_steps) in
    let none : 0 ≡ amount_held (held_of c.args.held.now (resource_of c.args.resource)) = grind (arith, common_steps) in
    let unpicked_at = λ (h : Halt). unpicked c.args.given.now c.args.kind (resource_of c.args.resource) c.args.amount
    c.args.held.now
    c.args.learned.now c.pick_value.new.learned h test none in
    search (rules, unpicked_at)

pub returns-in_ok-put-clause-goes : goal.returns-in_ok-put-clause-goes
returns-in_ok-put-clause-goes c =
    let test : nat_le (amount_held (held_of c.args.held.now (resource_of c.args.resource)) + c.args.amount) whole ≡ true =
    grind (arith, common_steps) in
    let none : 0 ≡ amount_held (held_of c.args.held.now (resource_of c.args.resource)) = grind (arith, common_steps) in
    gained_new _ _ _ _ c.args.held.now c.put.new.held c.args.learned.now c.pick_value.new.learned _ test none
    c.in_ok-pick_value.ensures.goes c.in_ok-put.ensures

pub returns-in_ok-put-2-clause-goes : goal.returns-in_ok-put-2-clause-goes
returns-in_ok-put-2-clause-goes c =
    let test : nat_le (amount_held (held_of c.args.held.now (resource_of c.args.resource)) + c.args.amount) whole ≡ true =
    grind (arith, common_steps) in
    let some : c.holding_at-there.result.amount ≡ 0 → ⊥ = grind (arith, common_steps) in
    gained_more _ _ _ _ c.holding_at-there.result.amount c.args.held.now c.put-else-there-eq0.new.held c.args.learned.now
    (cell_of c.holding_at-there.result.cell) test c.holding_at-there.ensures.amount some c.holding_at-there.ensures.cell
    c.in_ok-put-2.ensures
