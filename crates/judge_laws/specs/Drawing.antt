-- The lazy run of evidence is the drawn run on the values and turns that it takes.
use Rattle.std.specs.Prelude.{◌≡◌, ℕ, suc, ℤ, List, [], ◌∷◌, ◌++◌}
use Rattle.pv_picks.specs.declared.evidence.Pick.{Pick}
use Rattle.pv_picks.specs.declared.evidence.Pick.TheVariants.{Number, Turn, Steps}
use Rattle.pv_picks.specs.declared.evidence.Entry.{Entry}
use Rattle.pv_picks.specs.declared.evidence.Evidence.{Evidence}
use Rattle.pv_picks.specs.declared.unit.PvUnit.{PvUnit}
use Rattle.pv_picks.specs.Plain.Core.{Program}
use Rattle.pv_picks.specs.Judge.Runs.{Maps, maps_of, value_of_operation}
use Rattle.pv_picks.specs.Lazy.Runs.{UsedFor, ReadAs, Taken, OneNumber, OneTurn, ForRange, HasPattern, values_of, lazy_run, drawn_run}

-- the list stands in the sequence from the k-th on
abbrev pub AreAt : {A : Type 0} → (ℕ → A) → ℕ → List A → Type 0
AreAt f k [] = Unit {0}
AreAt f k (x ∷ xs) = (f k ≡ x) × AreAt f (suc k) xs

abbrev pub turns_of : List Pick → List ℕ
turns_of [] = []
turns_of (Number z ∷ picks) = turns_of picks
turns_of (Turn n ∷ picks) = n ∷ turns_of picks
turns_of (Steps map ∷ picks) = turns_of picks

abbrev pub RunsAsDrawn : Type 0
RunsAsDrawn = (p : Program) (unit : PvUnit) (evidence : Evidence) (values : ℕ → ℤ) (turns : ℕ → ℕ)
    → HasPattern p unit evidence → AreAt values 0 (values_of p unit evidence) → AreAt turns 0 (turns_of evidence.picks)
    → drawn_run p unit values turns ≡ lazy_run p unit evidence

-- the picks, with ranges' maps apart
abbrev pub kinds : List Pick → List Taken
kinds [] = []
kinds (Number z ∷ picks) = OneNumber z ∷ kinds picks
kinds (Turn n ∷ picks) = OneTurn n ∷ kinds picks
kinds (Steps map ∷ picks) = ForRange ∷ kinds picks

-- the maps have the numbers that were read, and the table those that were used
abbrev pub FitReads : Maps → List ReadAs → Type 0
FitReads maps [] = Unit {0}
FitReads maps (r ∷ rs) = (maps r.number r.index ≡ r.value) × FitReads maps rs

abbrev pub FitsUses : List Entry → List UsedFor → Type 0
FitsUses table [] = Unit {0}
FitsUses table (u ∷ us) = (value_of_operation table u.used.0 u.used.1 u.used.2 ≡ u.value) × FitsUses table us

-- evidence with the picks that a drawn run takes, and maybe more behind them, whose maps and table fit what it remembers at the
-- end, has that run
abbrev pub DrawnRunsAsLazy : Type 0
DrawnRunsAsLazy = (p : Program) (unit : PvUnit) (evidence : Evidence) (values : ℕ → ℤ) (turns : ℕ → ℕ)
    (more : List Taken) → kinds evidence.picks ≡ (drawn_run p unit values turns).picks ++ more
    → FitReads (maps_of evidence.picks) (drawn_run p unit values turns).end.reads
    → FitsUses evidence.table (drawn_run p unit values turns).end.uses
    → lazy_run p unit evidence ≡ drawn_run p unit values turns

-- what a drawn run remembers of its picks at the end are the picks that it took
abbrev pub RemembersPicks : Type 0
RemembersPicks = (p : Program) (unit : PvUnit) (values : ℕ → ℤ) (turns : ℕ → ℕ) → (drawn_run p unit values turns).end.picks
    ≡ (drawn_run p unit values turns).picks
