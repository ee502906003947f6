-- What is said of verdicts on programs: their grounds, soundness over all interleavings, and agreement on loops.
use Rattle.std.specs.Prelude.{List, [], ◌∷◌}
use Rattle.std.specs.List.{AllByRecursion}
use Rattle.pv_ast.specs.declared.Program.{Program}
use Rattle.pv_ast.specs.Rules.WellFormed.{IsWellFormed}
use Rattle.pv_picks.specs.declared.unit.PvUnit.{PvUnit}
use Rattle.pv_picks.specs.Plain.Core as core
use Rattle.pv_picks.specs.Verdicts.Grounds.{NeverFails, IsPass, IsEmpty, IsFail, IsBeyond, IsSplits}
use Rattle.pv_picks.specs.Machine.Safety.{IsSafe}
use Rattle.pv_picks.specs.Machine.LoopRuns.{AgreesOnLoops, IsSound}
use Rattle.pv_picks.specs.declared.verdict.Verdict.{Verdict}
use Rattle.pv_picks.specs.declared.verdict.Verdict.TheVariants as verdict
use Rattle.pv_picks.specs.Elaborating.Programs.{core_of}
use Rattle.pv_picks.specs.Verdicts.Units.{units_of}

-- what a verdict on a unit of a plain program says
abbrev pub IsGrounded : core.Program → PvUnit → Verdict → Type 0
IsGrounded p unit verdict.Pass = IsPass p unit
IsGrounded p unit verdict.Empty = IsEmpty p unit
IsGrounded p unit (verdict.Fail check span evidence) = IsFail p unit check span evidence
IsGrounded p unit (verdict.Beyond check span evidence entry truth) = IsBeyond p unit check span evidence entry truth
IsGrounded p unit verdict.Splits = IsSplits p unit

-- each verdict on its unit
abbrev pub AreGrounded : core.Program → List PvUnit → List Verdict → Type 0
AreGrounded p [] [] = Unit {0}
AreGrounded p [] (v ∷ vs) = ⊥
AreGrounded p (u ∷ us) [] = ⊥
AreGrounded p (u ∷ us) (v ∷ vs) = IsGrounded p u v × AreGrounded p us vs

-- the same of a program
abbrev pub HasGround : Program → PvUnit → Verdict → Type 0
HasGround p unit v = IsGrounded (core_of p) unit v

abbrev pub HaveGrounds : Program → List PvUnit → List Verdict → Type 0
HaveGrounds p units verdicts = AreGrounded (core_of p) units verdicts

-- one verdict for each unit of the program, in the order of the text, each with its ground
abbrev pub AreVerdicts : Program → List Verdict → Type 0
AreVerdicts p verdicts = HaveGrounds p (units_of p) verdicts

-- Pass or Empty
abbrev pub IsGood : Verdict → Type 0
IsGood verdict.Pass = Unit {0}
IsGood verdict.Empty = Unit {0}
IsGood (verdict.Fail check span evidence) = ⊥
IsGood (verdict.Beyond check span evidence entry truth) = ⊥
IsGood verdict.Splits = ⊥

abbrev pub AreGood : List Verdict → Type 0
AreGood verdicts = AllByRecursion IsGood verdicts

-- no evidence makes the judge fail on any unit of the program; so it is where each verdict is Pass or Empty
abbrev pub IsVerified : Program → Type 0
IsVerified p = AllByRecursion (NeverFails (core_of p)) (units_of p)

-- soundness: where no evidence makes the judge fail on any unit of a well formed program, no interleaving of it goes wrong
abbrev pub SoundOverAllInterleavings : Type 0
SoundOverAllInterleavings = (p : Program) → IsWellFormed p → IsVerified p → IsSafe (core_of p)

-- loop agreement: then each counted loop that is run freely ends, if it ends, in the heap of its ordered run
abbrev pub LoopsAgree : Type 0
LoopsAgree = (p : Program) → IsWellFormed p → IsVerified p → AgreesOnLoops (core_of p)

-- what a program is worth that is passed: it is well formed, no interleaving of it goes wrong, and its loops agree
pub record IsPassed (p : Program) : Type 0 where
  pub well_formed : IsWellFormed p
  pub sound : IsSound (core_of p)
