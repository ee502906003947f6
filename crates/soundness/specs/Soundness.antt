-- What the laws of this crate say: of well formed programs on none of whose units the judge fails.
use Rattle.std.specs.Prelude.{ℕ, List}
use Rattle.pv_ast.specs.declared.Program.{Program}
use Rattle.pv_ast.specs.Rules.WellFormed.{IsWellFormed}
use Rattle.pv_picks.specs.Machine.Steps.{act}
use Rattle.pv_picks.specs.Machine.Worlds.{Mode, World}
use Rattle.pv_picks.specs.Machine.Safety.{IsReached, IsWrong}
use Rattle.pv_picks.specs.declared.verdict.Verdict.{Verdict}
use Rattle.pv_picks.specs.Elaborating.Programs.{core_of}
use Rattle.pv_picks.specs.Verdicts.Theorems.{AreVerdicts, AreGood, IsVerified, IsPassed}
use Rattle.account.specs.Accounts.{Account, Kept}

-- in a reached world that is accounted for no step is wrong, and the world after each is accounted for
abbrev pub StepsKeepTheAccount : Type 0
StepsKeepTheAccount = (p : Program) → IsWellFormed p → IsVerified p → (w : World) → IsReached (core_of p) w
    → Account (core_of p) w → (mode : Mode) (i : ℕ) → Kept (core_of p) (act (core_of p) w mode i)

-- each reached world is accounted for
abbrev pub ReachedWorldsAreAccounted : Type 0
ReachedWorldsAreAccounted = (p : Program) → IsWellFormed p → IsVerified p → (w : World) → IsReached (core_of p) w
    → Account (core_of p) w

-- a well formed program whose verdicts are all Pass or Empty, each with its ground, is safe and agrees on its loops
abbrev pub GoodVerdictsAreSound : Type 0
GoodVerdictsAreSound = (p : Program) (verdicts : List Verdict) → IsWellFormed p → AreVerdicts p verdicts → AreGood verdicts
    → IsPassed p

-- where some interleaving of a well formed program goes wrong, on some unit some evidence makes the judge fail
abbrev pub WhatGoesWrongIsNotVerified : Type 0
WhatGoesWrongIsNotVerified = (p : Program) → IsWellFormed p → (w : World) → IsReached (core_of p) w → IsWrong (core_of p) w
    → IsVerified p → ⊥
