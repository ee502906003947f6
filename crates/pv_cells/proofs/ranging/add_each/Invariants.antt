-- The elements before the index have more, and all else stays. The index doesn't pass the end, and there is room from it on.
use Rattle.std.proofs.Common.{◌≡◌, ◌+◌, ◌⊎◌, ◌≤ℤ◌, true, if◌then◌else◌}
use Rattle.std.specs.Prelude.{nat_le}
use Rattle.pv_fraction.specs.Amounts.{whole}
use Rattle.pv_picks.specs.Formulas.Values.{width}
use Rattle.pv_picks.specs.Judge.Permissions.{at_all}
use Rattle.pv_picks.specs.Judge.States as states
use Rattle.pv_cells.specs.Stores.{held_of}
use Rattle.pv_cells.proofs.ranging.add_each.Given as goal

abbrev pub invariant-loop-index : goal.invariant-loop-index
invariant-loop-index l = (l.fn.low ≤ℤ l.index) × ((l.index ≡ l.fn.low) ⊎ (l.index ≤ℤ l.fn.high)) × ((r : states.Resource)
    → held_of l.held r ≡ (if states.is_among l.kind l.array l.fn.low l.index r
    then states.holding (states.amount_held (held_of l.fn.held r) + l.amount)
    (states.cell_among (held_of l.fn.held r) (states.FromSteps l.kind l.number) r l.fn.low)
    else held_of l.fn.held r))
    × (at_all (λ i. nat_le (states.amount_held (held_of l.fn.held (states.InElement l.kind l.array i)) + l.amount) whole)
    l.index (width l.index l.fn.high) ≡ true)
