-- Worked programs of threads, blocks, messages and recursive predicates: no evidence makes the judge fail on any of their units,
-- so they are safe and agree on their loops.
use Rattle.pv_picks.specs.Verdicts.Theorems.{IsVerified, IsPassed}
use Rattle.worked_programs.specs.Witnesses.{divided, handed, relay, posted, list}

-- an object whose lock goes from one thread to another
abbrev pub HandedIsVerified : Type 0
HandedIsVerified = IsVerified handed

abbrev pub HandedPasses : Type 0
HandedPasses = IsPassed handed

-- a par block whose first member hands a field to the second one at a barrier
abbrev pub RelayIsVerified : Type 0
RelayIsVerified = IsVerified relay

abbrev pub RelayPasses : Type 0
RelayPasses = IsPassed relay

-- a counted loop whose first member sends a field to the second one
abbrev pub PostedIsVerified : Type 0
PostedIsVerified = IsVerified posted

abbrev pub PostedPasses : Type 0
PostedPasses = IsPassed posted

-- a list that is gone through by a recursive predicate and a recursive method
abbrev pub ListIsVerified : Type 0
ListIsVerified = IsVerified list

abbrev pub ListPasses : Type 0
ListPasses = IsPassed list

-- a par block whose members read one field, with half of it each
abbrev pub DividedIsVerified : Type 0
DividedIsVerified = IsVerified divided

abbrev pub DividedPasses : Type 0
DividedPasses = IsPassed divided
