-- Evidence on which a lazy run comes to know no fact on elements: the judge ends on it as the lazy run does.
use Rattle.std.specs.Prelude.{◌≡◌, []}
use Rattle.pv_picks.specs.declared.evidence.Evidence.{Evidence}
use Rattle.pv_picks.specs.declared.unit.PvUnit.{PvUnit}
use Rattle.pv_picks.specs.Plain.Core.{Program}
use Rattle.pv_picks.specs.Judge.Runs.{judge}
use Rattle.pv_picks.specs.Lazy.Runs.{lazy_run}
use Rattle.judge_laws.specs.Judging.{as_end}
use Rattle.judge_laws.specs.Entering.{judge_entry, lazy_entry}

abbrev pub JudgesWithoutFacts : Type 0
JudgesWithoutFacts = (p : Program) (unit : PvUnit) (evidence : Evidence) → (lazy_run p unit evidence).end.known ≡ []
    → judge p unit evidence ≡ as_end (lazy_run p unit evidence).end.end

-- the same up to the first inhale
abbrev pub EntersWithoutFacts : Type 0
EntersWithoutFacts = (p : Program) (unit : PvUnit) (evidence : Evidence) → (lazy_entry p unit evidence).end.known ≡ []
    → judge_entry p unit evidence ≡ as_end (lazy_entry p unit evidence).end.end
