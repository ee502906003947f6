-- The elements before the index have less, and all else stays. The index doesn't pass the end.
use Rattle.std.proofs.Common.{◌≡◌, ◌-◌, ◌⊎◌, ◌≤ℤ◌, if◌then◌else◌}
use Rattle.pv_picks.specs.Judge.States as states
use Rattle.pv_cells.specs.Stores.{held_of}
use Rattle.pv_cells.proofs.ranging.take_each.Given as goal

abbrev pub invariant-loop-index : goal.invariant-loop-index
invariant-loop-index l = (l.fn.low ≤ℤ l.index) × ((l.index ≡ l.fn.low) ⊎ (l.index ≤ℤ l.fn.high)) × ((r : states.Resource)
    → held_of l.held r
    ≡ (if states.is_among l.kind l.array l.fn.low l.index r
    then states.holding (states.amount_held (held_of l.fn.held r) - l.amount) (states.cell_held (held_of l.fn.held r))
    else held_of l.fn.held r))
