-- The finite pass: where each fact that a lazy run knows at its end spreads from the named positions of its range to all others,
-- the judge ends as the lazy run does.
use Rattle.std.specs.Prelude.{◌≡◌, ◌⊎◌, ℤ, true, List, [], ◌∷◌}
use Rattle.pv_picks.specs.declared.evidence.Pick.{Pick}
use Rattle.pv_picks.specs.declared.evidence.Entry.{Entry}
use Rattle.pv_picks.specs.declared.evidence.Evidence.{Evidence}
use Rattle.pv_picks.specs.declared.unit.PvUnit.{PvUnit}
use Rattle.pv_picks.specs.Plain.Core.{Program}
use Rattle.pv_picks.specs.Formulas.Values.{within}
use Rattle.pv_picks.specs.Judge.Settings.{Known}
use Rattle.pv_picks.specs.Judge.Repetitions.{test_at}
use Rattle.pv_picks.specs.Judge.Runs.{Maps, maps_of, Judged, judging_tests, judge}
use Rattle.pv_picks.specs.Lazy.Patterns.{positions_of}
use Rattle.pv_picks.specs.Lazy.Runs.{Final, lazy_run}
use Rattle.judge_laws.specs.Judging.{as_end}

abbrev pub IsOneOf : {A : Type 0} → A → List A → Type 0
IsOneOf a [] = ⊥
IsOneOf a (x ∷ xs) = (a ≡ x) ⊎ IsOneOf a xs

-- a fact's test at a position goes
abbrev pub Goes : Maps → List Entry → Known → ℤ → Type 0
Goes maps table k i = (x : Judged) (picks : List Pick) → test_at (judging_tests maps table) k i x picks ≡ x picks

-- a fact that is true at the positions of its range that are named in the end is true at each of its range
abbrev pub Spreads : Maps → List Entry → Final → Known → Type 0
Spreads maps table final k =
    ((q : ℤ) → IsOneOf q (positions_of final.known final.events k) → within k.low k.high q ≡ true → Goes maps table k q)
    → (i : ℤ) → within k.low k.high i ≡ true → Goes maps table k i

abbrev pub AllSpread : Maps → List Entry → Final → Type 0
AllSpread maps table final = (k : Known) → IsOneOf k final.known → Spreads maps table final k

abbrev pub JudgesWhereFactsSpread : Type 0
JudgesWhereFactsSpread = (p : Program) (unit : PvUnit) (evidence : Evidence)
    → AllSpread (maps_of evidence.picks) evidence.table (lazy_run p unit evidence).end
    → judge p unit evidence ≡ as_end (lazy_run p unit evidence).end.end
