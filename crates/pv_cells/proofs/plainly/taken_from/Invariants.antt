-- What is left of the table gives what the whole gives.
use Rattle.std.proofs.Common.{◌≡◌, drop}
use Rattle.pv_picks.specs.Plain.Trees.{operation_of}
use Rattle.pv_picks.specs.Judge.Runs.{taken_from}
use Rattle.pv_cells.proofs.plainly.taken_from.Given as goal

abbrev pub invariant-loop-entry : goal.invariant-loop-entry
invariant-loop-entry l =
    taken_from (drop l.entry-index l.table) (operation_of l.operation) l.a l.b
    ≡ taken_from l.table (operation_of l.operation) l.a l.b
