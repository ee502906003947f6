-- Worked programs that are verified, and one that isn't.
use Rattle.pv_picks.specs.Verdicts.Theorems.{IsVerified, IsPassed}
use Rattle.worked_programs.specs.Objects.{counter, chain, writers}

-- a field that is counted on
abbrev pub CounterIsVerified : Type 0
CounterIsVerified = IsVerified counter

-- so it is safe, and agrees on its loops
abbrev pub CounterPasses : Type 0
CounterPasses = IsPassed counter

-- a predicate that is unfolded and folded
abbrev pub ChainIsVerified : Type 0
ChainIsVerified = IsVerified chain

-- two threads that write one field, and race
abbrev pub WritersAreNotVerified : Type 0
WritersAreNotVerified = IsVerified writers → ⊥
