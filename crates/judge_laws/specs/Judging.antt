-- The judge ends as the lazy run does, or Blocked.
use Rattle.std.specs.Prelude.{◌≡◌, ◌⊎◌, ℕ, ℤ}
use Rattle.pv_picks.specs.declared.evidence.Evidence.{Evidence}
use Rattle.pv_picks.specs.declared.unit.PvUnit.{PvUnit}
use Rattle.pv_picks.specs.Plain.Core.{Program}
use Rattle.pv_picks.specs.Judge.Runs.{End, Blocked, judge}
use Rattle.pv_picks.specs.Lazy.Runs.{LazyEnd, Ends, Unfit, lazy_run, drawn_run, HasPattern, values_of}
use Rattle.judge_laws.specs.Drawing.{AreAt, turns_of}

abbrev pub as_end : LazyEnd → End
as_end (Ends e) = e
as_end Unfit = Blocked

abbrev pub JudgesAsLazy : Type 0
JudgesAsLazy = (p : Program) (unit : PvUnit) (evidence : Evidence)
    → (judge p unit evidence ≡ as_end (lazy_run p unit evidence).end.end) ⊎ (judge p unit evidence ≡ Blocked)

-- on evidence with a pattern the judge ends as the drawn run on the values and turns that it takes, or Blocked
abbrev pub JudgesAsDrawn : Type 0
JudgesAsDrawn = (p : Program) (unit : PvUnit) (evidence : Evidence) (values : ℕ → ℤ) (turns : ℕ → ℕ)
    → HasPattern p unit evidence → AreAt values 0 (values_of p unit evidence) → AreAt turns 0 (turns_of evidence.picks)
    → (judge p unit evidence ≡ as_end (drawn_run p unit values turns).end.end) ⊎ (judge p unit evidence ≡ Blocked)

-- on evidence without one it is Blocked
abbrev pub BlocksWithoutPattern : Type 0
BlocksWithoutPattern = (p : Program) (unit : PvUnit) (evidence : Evidence) → (HasPattern p unit evidence → ⊥)
    → judge p unit evidence ≡ Blocked
