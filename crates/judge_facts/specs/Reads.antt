-- What a lazy run reads of its picks for ranges it reads at names; so on evidence whose maps list what was read the judge ends as
-- it does.
use Rattle.std.specs.Prelude.{◌≡◌, ℕ, ℤ, List}
use Rattle.pv_picks.specs.declared.evidence.Pick.{Pick}
use Rattle.pv_picks.specs.declared.evidence.StepPair.{StepPair}
use Rattle.pv_picks.specs.declared.evidence.Evidence.{Evidence}
use Rattle.pv_picks.specs.declared.unit.PvUnit.{PvUnit}
use Rattle.pv_picks.specs.Plain.Core.{Program}
use Rattle.pv_picks.specs.Judge.Runs.{Blocked, maps_of, judge}
use Rattle.pv_picks.specs.Lazy.Runs.{RangeOf, ReadAs, Final, Ends, Unfit, lazy_run, drawn_run}
use Rattle.judge_laws.specs.Judging.{as_end}
use Rattle.judge_laws.specs.Drawing.{kinds, FitReads, FitsUses}
use Rattle.judge_facts.specs.Finite.{IsOneOf}
use Rattle.judge_facts.specs.Fair.{names_of}
use Rattle.judge_facts.specs.Shapes.{IsRepeatable, IsShapedProgram}
use Rattle.judge_facts.specs.Carried.{pairs_of}

-- each element of a pick for a range that was read is at a name of its array
abbrev pub AllAtNames : Final → Type 0
AllAtNames final = (x : RangeOf) → IsOneOf x final.ranges → (r : ReadAs) → IsOneOf r final.reads → r.number ≡ x.number
    → IsOneOf r.index (names_of final (x.type, x.array))

-- so it is at an end that is neither blocked nor unfit
abbrev pub ReadsAtNames : Type 0
ReadsAtNames = (p : Program) (unit : PvUnit) (evidence : Evidence) → IsShapedProgram IsRepeatable p
    → ((lazy_run p unit evidence).end.end ≡ Ends Blocked → ⊥) → ((lazy_run p unit evidence).end.end ≡ Unfit → ⊥)
    → AllAtNames (lazy_run p unit evidence).end

-- an element of a pick for a range was read
pub record WasRead (final : Final) (n : ℕ) (i : ℤ) : Type 0 where
  pub read : ReadAs
  pub member : IsOneOf read final.reads
  pub number : read.number ≡ n
  pub index : read.index ≡ i

-- only what was read is listed
abbrev pub ListsReads : List Pick → Final → Type 0
ListsReads picks final = (number : ℕ) (pair : StepPair) → IsOneOf pair (pairs_of picks number) → WasRead final number pair.at

-- evidence with the picks of a drawn run, whose maps and table fit what it remembers at its end, and whose maps list only what
-- was read: the judge ends on it as the drawn run does
abbrev pub JudgesOnReads : Type 0
JudgesOnReads =
    (p : Program) (unit : PvUnit) (evidence : Evidence) (values : ℕ → ℤ) (turns : ℕ → ℕ) → IsShapedProgram IsRepeatable p
    → kinds evidence.picks ≡ (drawn_run p unit values turns).picks
    → FitReads (maps_of evidence.picks) (drawn_run p unit values turns).end.reads
    → FitsUses evidence.table (drawn_run p unit values turns).end.uses
    → ListsReads evidence.picks (drawn_run p unit values turns).end
    → judge p unit evidence ≡ as_end (drawn_run p unit values turns).end.end
