-- Good verdicts with their grounds say that no evidence makes the judge fail.
use Rattle.std.proofs.Common.{List, [], ◌∷◌}
use Rattle.std.specs.List.{AllByRecursion}
use Rattle.pv_ast.specs.declared.Program.{Program}
use Rattle.pv_picks.specs.declared.unit.PvUnit.{PvUnit}
use Rattle.pv_picks.specs.Verdicts.Grounds.{NeverFails}
use Rattle.pv_picks.specs.declared.verdict.Verdict.{Verdict}
use Rattle.pv_picks.specs.declared.verdict.Verdict.TheVariants as verdict
use Rattle.pv_picks.specs.Elaborating.Programs.{core_of}
use Rattle.pv_picks.specs.Verdicts.Units.{units_of}
use Rattle.pv_picks.specs.Verdicts.Theorems.{HasGround, HaveGrounds, AreVerdicts, IsGood, AreGood, IsVerified}

never_fails : (p : Program) (unit : PvUnit) (v : Verdict) → HasGround p unit v → IsGood v → NeverFails (core_of p) unit
never_fails p unit verdict.Pass ground good = ground.never
never_fails p unit verdict.Empty ground good = ground.never
never_fails p unit (verdict.Fail check span evidence) ground good = absurd good
never_fails p unit (verdict.Beyond check span evidence entry truth) ground good = absurd good
never_fails p unit verdict.Splits ground good = absurd good

none_fails : (p : Program) (units : List PvUnit) (verdicts : List Verdict) → HaveGrounds p units verdicts → AreGood verdicts
    → AllByRecursion (NeverFails (core_of p)) units
none_fails p [] [] grounds good = tt
none_fails p [] (v ∷ vs) grounds good = absurd grounds
none_fails p (u ∷ us) [] grounds good = absurd grounds
none_fails p (u ∷ us) (v ∷ vs) grounds good = (never_fails p u v grounds.0 good.0, none_fails p us vs grounds.1 good.1)

pub verified : (p : Program) (verdicts : List Verdict) → AreVerdicts p verdicts → AreGood verdicts → IsVerified p
verified p verdicts grounds good = none_fails p (units_of p) verdicts grounds good
