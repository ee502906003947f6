-- On evidence whose maps have between names the value at the nearest name below, the judge ends as the lazy run does.
use Rattle.std.specs.Prelude.{◌≡◌, ℕ, zero, suc, ℤ, List, [], ◌∷◌}
use Rattle.pv_picks.specs.declared.evidence.Pick.{Pick}
use Rattle.pv_picks.specs.declared.evidence.Pick.TheVariants.{Number, Turn, Steps}
use Rattle.pv_picks.specs.declared.evidence.StepPair.{StepPair}
use Rattle.pv_picks.specs.declared.evidence.Evidence.{Evidence}
use Rattle.pv_picks.specs.declared.unit.PvUnit.{PvUnit}
use Rattle.pv_picks.specs.Plain.Core.{Program}
use Rattle.pv_picks.specs.Judge.UnitRuns.{task_of}
use Rattle.pv_picks.specs.Judge.Runs.{Maps, maps_of, judge}
use Rattle.pv_picks.specs.Lazy.Runs.{RangeOf, Final, lazy_run, drawn_run}
use Rattle.judge_laws.specs.Judging.{as_end}
use Rattle.judge_laws.specs.Drawing.{kinds, FitReads, FitsUses}
use Rattle.judge_facts.specs.Finite.{IsOneOf}
use Rattle.judge_facts.specs.Fair.{Nearest, names_of}
use Rattle.judge_facts.specs.Shapes.{IsShaped, ShapedProgram, ShapedTask, IsShapedProgram}

-- each map has at a position the value that it has at the greatest named one that isn't above, among those of its array's class
abbrev pub Carries : Maps → Final → Type 0
Carries maps final = (x : RangeOf) → IsOneOf x final.ranges → (p q : ℤ)
    → Nearest (names_of final (x.type, x.array)) p q → maps x.number p ≡ maps x.number q

abbrev pub JudgesAsLazyRun : Type 0
JudgesAsLazyRun =
    (p : Program) (unit : PvUnit) (evidence : Evidence) → ShapedProgram IsShaped p → ShapedTask IsShaped (task_of p unit)
    → Carries (maps_of evidence.picks) (lazy_run p unit evidence).end
    → judge p unit evidence ≡ as_end (lazy_run p unit evidence).end.end

-- the pairs of the so-many-th pick for a range
abbrev pub pairs_of : List Pick → ℕ → List StepPair
pairs_of [] n = []
pairs_of (Number z ∷ picks) n = pairs_of picks n
pairs_of (Turn t ∷ picks) n = pairs_of picks n
pairs_of (Steps map ∷ picks) zero = map
pairs_of (Steps map ∷ picks) (suc n) = pairs_of picks n

-- only names of its array's class are listed
abbrev pub ListsNames : List Pick → Final → Type 0
ListsNames picks final = (x : RangeOf) → IsOneOf x final.ranges → (pair : StepPair) → IsOneOf pair (pairs_of picks x.number)
    → IsOneOf pair.at (names_of final (x.type, x.array))

-- on evidence whose maps list names alone the judge ends as the lazy run does
abbrev pub JudgesOnListedNames : Type 0
JudgesOnListedNames = (p : Program) (unit : PvUnit) (evidence : Evidence) → IsShapedProgram IsShaped p
    → ListsNames evidence.picks (lazy_run p unit evidence).end
    → judge p unit evidence ≡ as_end (lazy_run p unit evidence).end.end

-- evidence with the picks of a drawn run, whose maps and table fit what it remembers at its end, and whose maps list names alone:
-- the judge ends on it as the drawn run does
abbrev pub JudgesAsItDrew : Type 0
JudgesAsItDrew = (p : Program) (unit : PvUnit) (evidence : Evidence) (values : ℕ → ℤ) (turns : ℕ → ℕ) → IsShapedProgram IsShaped p
    → kinds evidence.picks ≡ (drawn_run p unit values turns).picks
    → FitReads (maps_of evidence.picks) (drawn_run p unit values turns).end.reads
    → FitsUses evidence.table (drawn_run p unit values turns).end.uses
    → ListsNames evidence.picks (drawn_run p unit values turns).end
    → judge p unit evidence ≡ as_end (drawn_run p unit values turns).end.end
