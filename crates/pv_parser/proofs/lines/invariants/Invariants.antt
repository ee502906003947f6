use Rattle.std.proofs.Common.{◌≡◌, length}
use Rattle.pv_exprs.specs.Reading.{deeper}
use Rattle.pv_parser.specs.Reading.{invariants}
use Rattle.pv_parser.proofs.lines.invariants.Given as goal

abbrev pub invariant-found : goal.invariant-found
invariant-found l = invariants (deeper l.fn.room) l.fn.found l.fn.tokens ≡ invariants (deeper l.fn.room) l.all l.rest

abbrev pub decreases-found : goal.decreases-found
decreases-found l = length l.rest
