-- The run of a unit up to its first inhale: its lazy run, its drawn run, and what the judge comes to there.
use Rattle.std.specs.Prelude.{◌≡◌, ◌≢◌, ◌⊎◌, ℕ, ℤ, List, ◌++◌}
use Rattle.pv_picks.specs.declared.evidence.Evidence.{Evidence}
use Rattle.pv_picks.specs.declared.unit.PvUnit.{PvUnit}
use Rattle.pv_picks.specs.Plain.Core.{Program}
use Rattle.pv_picks.specs.Judge.UnitRuns.{task_of, enter_task}
use Rattle.pv_picks.specs.Judge.Runs.{End, Blocked, maps_of, judging}
use Rattle.pv_picks.specs.Lazy.Runs.{Taken, Unfit, Outcome, Final, final, lazy, from_picks, from_values, no_memory}
use Rattle.judge_laws.specs.Judging.{as_end}
use Rattle.judge_laws.specs.Drawing.{AreAt, turns_of, kinds, FitReads, FitsUses}

abbrev pub judge_entry : Program → PvUnit → Evidence → End
judge_entry p unit evidence = enter_task (judging (maps_of evidence.picks) evidence.table) (task_of p unit) evidence.picks

abbrev pub lazy_entry : Program → PvUnit → Evidence → Outcome Final
lazy_entry p unit evidence =
    enter_task (lazy final (from_picks (maps_of evidence.picks) evidence.table)) (task_of p unit) no_memory evidence.picks

abbrev pub drawn_entry : Program → PvUnit → (ℕ → ℤ) → (ℕ → ℕ) → Outcome Final
drawn_entry p unit values turns =
    enter_task (lazy final (from_values values turns)) (task_of p unit) no_memory (record { taken = 0; turned = 0 })

-- the lazy run of evidence up to there is the drawn run on the values and turns that it takes
abbrev pub EntersAsDrawn : Type 0
EntersAsDrawn = (p : Program) (unit : PvUnit) (evidence : Evidence) (values : ℕ → ℤ) (turns : ℕ → ℕ)
    → (lazy_entry p unit evidence).end.end ≢ Unfit → AreAt values 0 (lazy_entry p unit evidence).values
    → AreAt turns 0 (turns_of evidence.picks) → drawn_entry p unit values turns ≡ lazy_entry p unit evidence

-- evidence with the picks of the drawn run, and maybe more behind them, whose maps and table fit what it remembers, has that run
abbrev pub DrawnEntersAsLazy : Type 0
DrawnEntersAsLazy = (p : Program) (unit : PvUnit) (evidence : Evidence) (values : ℕ → ℤ) (turns : ℕ → ℕ)
    (more : List Taken) → kinds evidence.picks ≡ (drawn_entry p unit values turns).picks ++ more
    → FitReads (maps_of evidence.picks) (drawn_entry p unit values turns).end.reads
    → FitsUses evidence.table (drawn_entry p unit values turns).end.uses
    → lazy_entry p unit evidence ≡ drawn_entry p unit values turns

-- the judge comes there as the lazy run does, or is blocked
abbrev pub EntersAsLazy : Type 0
EntersAsLazy = (p : Program) (unit : PvUnit) (evidence : Evidence)
    → (judge_entry p unit evidence ≡ as_end (lazy_entry p unit evidence).end.end) ⊎ (judge_entry p unit evidence ≡ Blocked)
