-- It is there already, or is added.
use Rattle.std.proofs.Common.{◌≡◌, arith}
use Rattle.std.proofs.lemmas.Grind.{common_steps}
use Rattle.pv_picks.specs.Judge.States.{amount_held}
use Rattle.pv_cells.specs.Keys.{resource_of}
use Rattle.pv_cells.specs.Stores.{held_of, cell_of}
use Rattle.pv_cells.proofs.Gains.{is_there, added_whole}
use Rattle.pv_cells.proofs.gaining.add_whole.Goals as goal

pub returns-then-there-ne0-clause-stops : goal.returns-then-there-ne0-clause-stops
returns-then-there-ne0-clause-stops c given l =
    let some : amount_held (held_of c.args.held.now (resource_of c.args.resource)) ≡ 0 → ⊥ = grind (arith, common_steps) in
    is_there given (resource_of c.args.resource) c.args.held.now l some

pub returns-clause-goes : goal.returns-clause-goes
returns-clause-goes c given l =
    let none : amount_held (held_of c.args.held.now (resource_of c.args.resource)) ≡ 0 = grind (arith, common_steps) in
    added_whole given (resource_of c.args.resource) c.args.held.now c.put.new.held l (cell_of c.holding_at-there.result.cell) none
    c.holding_at-there.ensures.cell c.in_ok-put.ensures
