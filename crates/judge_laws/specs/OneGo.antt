-- A drawn run in one go: how far it comes, with what it shows and takes on the way.
use Rattle.std.specs.Prelude.{◌≡◌, ℕ, ℤ}
use Rattle.pv_values.specs.declared.value.Value.{Value}
use Rattle.pv_picks.specs.Plain.Core.{Expression, Formula, Program, Block}
use Rattle.pv_picks.specs.Formulas.Evaluation.{Scene, evaluate}
use Rattle.pv_picks.specs.Judge.States.{State, Bind, Cells}
use Rattle.pv_picks.specs.Judge.Settings.{Next, no_frame, formula_reader}
use Rattle.pv_picks.specs.Judge.Inhaling.{inhale}
use Rattle.pv_picks.specs.Judge.Exhaling.{Giving, exhale}
use Rattle.pv_picks.specs.Judge.Rows.{Site, access_reader}
use Rattle.pv_picks.specs.declared.unit.PvUnit.{PvUnit}
use Rattle.pv_picks.specs.Judge.States.{empty_state}
use Rattle.pv_picks.specs.Judge.Judging.{finish, judge_block}
use Rattle.pv_picks.specs.Judge.UnitRuns.{task_of, enter, go_on, judge_task}
use Rattle.pv_picks.specs.Lazy.Runs.{Memory, LazyEnd, Final, final, Lazily, lazy, Drawn, from_values, no_memory, drawn_run}
use Rattle.pv_picks.specs.Lazy.Parts.{Ran, gone, one_go, then_run, chain}
use Rattle.judge_laws.specs.Entering.{drawn_entry}

-- expressions, formulas and statements in one go
abbrev pub evaluated : (ℕ → ℤ) → (ℕ → ℕ) → Scene → Expression → State → Memory → Drawn → Ran Value
evaluated values turns scene e = evaluate (access_reader (one_go values turns)) (access_reader (one_go values turns)) scene e gone

abbrev pub inhaled_at : (ℕ → ℤ) → (ℕ → ℕ) → Bind → Formula → State → Memory → Drawn → Ran (Unit {0})
inhaled_at values turns bind formula = inhale (one_go values turns) bind formula (gone tt)

abbrev pub exhaled_at : (ℕ → ℤ) → (ℕ → ℕ) → Giving → Formula → State → Memory → Drawn → Ran (Unit {0})
exhaled_at values turns giving formula = exhale (one_go values turns) giving formula (gone tt)

abbrev pub EvaluatesInOneGo : {E : Type 0} → (LazyEnd → Memory → E) → Type 0
EvaluatesInOneGo {E} stop = (values : ℕ → ℤ) (turns : ℕ → ℕ) (scene : Scene) (e : Expression)
    (next : Value → Next (Lazily Drawn E)) (s : State) (m : Memory) (d : Drawn)
    → evaluate (access_reader (lazy stop (from_values values turns)))
    (access_reader (lazy stop (from_values values turns))) scene e next s m d
    ≡ then_run stop (evaluated values turns scene e s m d) next

abbrev pub InhalesInOneGo : {E : Type 0} → (LazyEnd → Memory → E) → Type 0
InhalesInOneGo {E} stop = (values : ℕ → ℤ) (turns : ℕ → ℕ) (bind : Bind) (formula : Formula)
    (next : Next (Lazily Drawn E)) (s : State) (m : Memory) (d : Drawn)
    → inhale (lazy stop (from_values values turns)) bind formula next s m d
    ≡ then_run stop (inhaled_at values turns bind formula s m d) (λ u. next)

abbrev pub ExhalesInOneGo : {E : Type 0} → (LazyEnd → Memory → E) → Type 0
ExhalesInOneGo {E} stop = (values : ℕ → ℤ) (turns : ℕ → ℕ) (giving : Giving) (formula : Formula)
    (next : Next (Lazily Drawn E)) (s : State) (m : Memory) (d : Drawn)
    → exhale (lazy stop (from_values values turns)) giving formula next s m d
    ≡ then_run stop (exhaled_at values turns giving formula s m d) (λ u. next)

-- a value in a formula that reads these cells; a block
abbrev pub valued : (ℕ → ℤ) → (ℕ → ℕ) → Cells → Cells → Scene → Expression → State → Memory → Drawn → Ran Value
valued values turns now old scene e =
    evaluate (formula_reader (one_go values turns) (λ s. now) (no_frame (one_go values turns)))
    (formula_reader (one_go values turns) (λ s. old) (no_frame (one_go values turns))) scene e gone

abbrev pub judged : (ℕ → ℤ) → (ℕ → ℕ) → Program → Site → Block → State → Memory → Drawn → Ran (Unit {0})
judged values turns p site block = judge_block (one_go values turns) p site block (gone tt)

abbrev pub ValuesInOneGo : {E : Type 0} → (LazyEnd → Memory → E) → Type 0
ValuesInOneGo {E} stop = (values : ℕ → ℤ) (turns : ℕ → ℕ) (now old : Cells) (scene : Scene)
    (e : Expression) (next : Value → Next (Lazily Drawn E)) (s : State) (m : Memory) (d : Drawn)
    → evaluate (formula_reader (lazy stop (from_values values turns)) (λ t. now)
    (no_frame (lazy stop (from_values values turns))))
    (formula_reader (lazy stop (from_values values turns)) (λ t. old) (no_frame (lazy stop (from_values values turns)))) scene e
    next s m d
    ≡ then_run stop (valued values turns now old scene e s m d) next

abbrev pub JudgesInOneGo : {E : Type 0} → (LazyEnd → Memory → E) → Type 0
JudgesInOneGo {E} stop = (values : ℕ → ℤ) (turns : ℕ → ℕ) (p : Program) (site : Site)
    (block : Block) (next : Next (Lazily Drawn E)) (s : State) (m : Memory) (d : Drawn)
    → judge_block (lazy stop (from_values values turns)) p site block next s m d
    ≡ then_run stop (judged values turns p site block s m d) (λ u. next)

-- a run to its end is its parts in one go, each with what comes next
abbrev pub StepsInOneGo : Type 0
StepsInOneGo =
    EvaluatesInOneGo final × ValuesInOneGo final × InhalesInOneGo final × ExhalesInOneGo final × JudgesInOneGo final

-- the run of a unit; and its run up to the first inhale, which goes or has ended
abbrev pub unit_run : Program → PvUnit → (ℕ → ℤ) → (ℕ → ℕ) → Ran (Unit {0})
unit_run p unit values turns =
    judge_task (one_go values turns) p (task_of p unit) no_memory (record { taken = 0; turned = 0 })

abbrev pub unit_entry : Program → PvUnit → (ℕ → ℤ) → (ℕ → ℕ) → Ran (Unit {0})
unit_entry p unit values turns =
    enter (one_go values turns) (task_of p unit) (gone tt) empty_state no_memory (record { taken = 0; turned = 0 })

-- what comes next of the run of a unit is nothing
abbrev pub UnitsInOneGo : Type 0
UnitsInOneGo = (p : Program) (unit : PvUnit) (values : ℕ → ℤ) (turns : ℕ → ℕ) (next : Unit {0} → Next (Lazily Drawn Final))
    → drawn_run p unit values turns ≡ then_run final (unit_run p unit values turns) next

abbrev pub EntersInOneGo : Type 0
EntersInOneGo = (p : Program) (unit : PvUnit) (values : ℕ → ℤ) (turns : ℕ → ℕ)
    → drawn_entry p unit values turns
    ≡ then_run final (unit_entry p unit values turns) (λ u. finish (lazy final (from_values values turns)))

-- the run of a unit is its run up to the first inhale, and then the rest
abbrev pub GoesOnInOneGo : Type 0
GoesOnInOneGo = (p : Program) (unit : PvUnit) (values : ℕ → ℤ) (turns : ℕ → ℕ)
    → unit_run p unit values turns ≡ chain (unit_entry p unit values turns) (λ u. go_on (one_go values turns) p (task_of p unit))

abbrev pub RunsInOneGo : Type 0
RunsInOneGo = UnitsInOneGo × EntersInOneGo × GoesOnInOneGo
