-- What the laws of this crate say.
use Rattle.std.specs.Prelude.{◌≡◌, ◌≤◌, List, [], All}
use Rattle.pv_picks.specs.declared.evidence.Pick.{Pick}
use Rattle.pv_picks.specs.declared.evidence.Entry.{Entry}
use Rattle.pv_picks.specs.declared.unit.PvUnit.{PvUnit}
use Rattle.pv_picks.specs.Plain.Core.{Formula, Program}
use Rattle.pv_picks.specs.Judge.States.{State, amount_of, Resource, Bind}
use Rattle.pv_picks.specs.Judge.Settings.{Next}
use Rattle.pv_picks.specs.Judge.Inhaling.{inhale}
use Rattle.pv_picks.specs.Judge.Exhaling.{Giving, exhale}
use Rattle.pv_picks.specs.Judge.Runs.{Maps, Judged, judging, judge}
use Rattle.pv_picks.specs.Verdicts.Grounds.{IsTrueEntry}
use Rattle.judge_laws.specs.Direct.{Goes, inhaled, exhaled, then_next}

-- inhaling and exhaling with what comes next are inhaling and exhaling in one go, and then what comes next
abbrev pub InhalesDirectly : Type 0
InhalesDirectly = (maps : Maps) (table : List Entry) (bind : Bind) (formula : Formula) (next : Next Judged) (state : State)
    (picks : List Pick)
    → inhale (judging maps table) bind formula next state picks ≡ then_next (inhaled maps table bind formula state picks) next

abbrev pub ExhalesDirectly : Type 0
ExhalesDirectly = (maps : Maps) (table : List Entry) (giving : Giving) (formula : Formula) (next : Next Judged) (state : State)
    (picks : List Pick)
    → exhale (judging maps table) giving formula next state picks ≡ then_next (exhaled maps table giving formula state picks) next

-- what is exhaled was held: where it goes, nothing is there in a greater amount than before
abbrev pub WasHeld : Type 0
WasHeld = (maps : Maps) (table : List Entry) (giving : Giving) (formula : Formula) (before after : State) (picks left : List Pick)
    → exhaled maps table giving formula before picks ≡ Goes after left → (resource : Resource)
    → amount_of after resource ≤ amount_of before resource

-- under a table of true arithmetic the judge ends as under the empty one
abbrev pub ReadsNoTrueTable : Type 0
ReadsNoTrueTable = (p : Program) (unit : PvUnit) (picks : List Pick) (table : List Entry) → All IsTrueEntry table
    → judge p unit (record { picks = picks; table = table }) ≡ judge p unit (record { picks = picks; table = [] })
