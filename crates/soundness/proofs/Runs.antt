-- Each world that a verified program reaches is accounted for; so none is wrong, and its loops agree.
use Rattle.std.proofs.Common.{inl, inr, subst}
use Rattle.pv_ast.specs.declared.Program.{Program}
use Rattle.pv_ast.specs.Rules.WellFormed.{IsWellFormed}
use Rattle.pv_picks.specs.Plain.Core as core
use Rattle.pv_picks.specs.Machine.Worlds.{Free, World}
use Rattle.pv_picks.specs.Machine.Steps.{Result, act}
use Rattle.pv_picks.specs.Machine.Safety.{IsReached, IsWrong}
use Rattle.pv_picks.specs.Elaborating.Programs.{core_of}
use Rattle.pv_picks.specs.Verdicts.Theorems.{IsVerified, SoundOverAllInterleavings, LoopsAgree}
use Rattle.account.specs.Accounts.{Account, Kept}
use Rattle.account.proofs.Supplying.{heaps_fit}
use Rattle.soundness.proofs.Verifying.{verified_throughout}
use Rattle.account_calls.proofs.Starting.{first_accounted}
use Rattle.account_accesses.proofs.Racing.{no_race}
use Rattle.machine_laws.specs.HeapSteps.{WhereItGoes}
use Rattle.machine_laws.proofs.Changes.{reached_goes}
use Rattle.core_trees.proofs.Verdicts.{verified as verdicts_verify}
use Rattle.machine_loops.proofs.Programs.{loops_agree, passed}
use Rattle.soundness.specs.Soundness.{StepsKeepTheAccount, ReachedWorldsAreAccounted, GoodVerdictsAreSound, WhatGoesWrongIsNotVerified}
use Rattle.soundness.proofs.Steps.{keeps}

-- a step that isn't wrong leads to a world that is accounted for, where it leads to one
kept_goes : (p : core.Program) (r : Result) → Kept p r → WhereItGoes (Account p) r
kept_goes p (Result.Went v) kept = kept
kept_goes p Result.Waits kept = tt
kept_goes p Result.Ended kept = tt
kept_goes p (Result.Wrong named span) kept = tt

pub steps_keep : StepsKeepTheAccount
steps_keep p well verified w reached a mode i = keeps p well verified w reached a mode i

pub accounted : ReachedWorldsAreAccounted
accounted p well verified =
    reached_goes (core_of p) (Account (core_of p)) (first_accounted (core_of p) (verified_throughout p well verified))
    (λ w reached a mode i.
    kept_goes (core_of p) (act (core_of p) w mode i) (keeps p well verified w reached a mode i))

never_wrong : (p : Program) → IsWellFormed p → IsVerified p → (w : World) → IsReached (core_of p) w → IsWrong (core_of p) w → ⊥
never_wrong p well verified w reached (inl fault) =
    subst (Kept (core_of p)) fault.3 (keeps p well verified w reached (accounted p well verified w reached) Free fault.0)
never_wrong p well verified w reached (inr race) =
    no_race (core_of p) w (heaps_fit (core_of p) (verified_throughout p well verified).typed.bodies w reached)
    (accounted p well verified w reached) race

pub safe : SoundOverAllInterleavings
safe p well verified = never_wrong p well verified

pub agree : LoopsAgree
agree = loops_agree safe

pub sound : GoodVerdictsAreSound
sound p verdicts well grounds good = passed safe p well (verdicts_verify p verdicts grounds good)

pub wrong_is_refused : WhatGoesWrongIsNotVerified
wrong_is_refused p well w reached wrong verified = never_wrong p well verified w reached wrong
