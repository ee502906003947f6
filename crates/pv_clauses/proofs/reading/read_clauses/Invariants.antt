use Rattle.std.proofs.Common.{◌≡◌, length}
use Rattle.pv_exprs.specs.Reading.{deeper}
use Rattle.pv_clauses.specs.Reading.{clauses}
use Rattle.pv_clauses.proofs.reading.read_clauses.Given as goal

abbrev pub invariant-found : goal.invariant-found
invariant-found l = clauses (deeper l.fn.room) l.fn.found l.fn.tokens ≡ clauses (deeper l.fn.room) l.all l.rest

abbrev pub decreases-found : goal.decreases-found
decreases-found l = length l.rest
