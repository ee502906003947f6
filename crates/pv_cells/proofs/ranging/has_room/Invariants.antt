-- What is left of the range decides.
use Rattle.std.proofs.Common.{◌≡◌, ◌+◌}
use Rattle.std.specs.Prelude.{nat_le}
use Rattle.pv_fraction.specs.Amounts.{whole}
use Rattle.pv_picks.specs.Formulas.Values.{width}
use Rattle.pv_picks.specs.Judge.States as states
use Rattle.pv_picks.specs.Judge.Permissions.{at_all}
use Rattle.pv_cells.specs.Stores.{held_of}
use Rattle.pv_cells.proofs.ranging.has_room.Given as goal

abbrev pub invariant-loop-index : goal.invariant-loop-index
invariant-loop-index l =
    at_all (λ i. nat_le (states.amount_held (held_of l.held (states.InElement l.kind l.array i)) + l.amount) whole) l.index
    (width l.index l.fn.high)
    ≡ at_all (λ i. nat_le (states.amount_held (held_of l.held (states.InElement l.kind l.array i)) + l.amount) whole) l.fn.low
    (width l.fn.low l.fn.high)
