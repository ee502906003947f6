-- Both forms of a contract that members keep are inhaled alike at a position.
use Rattle.std.specs.Prelude.{◌≡◌, ℤ, pos, ◌+ℤ◌, List}
use Rattle.pv_base.specs.declared.Name.{Name}
use Rattle.pv_values.specs.declared.value.Value.{Value}
use Rattle.pv_values.specs.declared.value.Value.TheVariants as value
use Rattle.pv_picks.specs.declared.evidence.Pick.{Pick}
use Rattle.pv_picks.specs.declared.evidence.Entry.{Entry}
use Rattle.pv_picks.specs.Plain.Core.{Program, Shared, Expression, Formula, Items, Item}
use Rattle.pv_picks.specs.Plain.Core as core
use Rattle.pv_picks.specs.Formulas.Values.{number_in}
use Rattle.pv_picks.specs.Formulas.Evaluation.{Scene}
use Rattle.pv_picks.specs.Judge.States.{State, Cells, Bind}
use Rattle.pv_picks.specs.Judge.Settings.{Next}
use Rattle.pv_picks.specs.Judge.Repetitions.{bind_at}
use Rattle.pv_picks.specs.Judge.Inhaling.{value_now, inhale, inhale_items}
use Rattle.pv_picks.specs.Judge.Judging.{finish}
use Rattle.pv_picks.specs.Judge.Runs.{End, Blocked, Judged, Maps, judging}
use Rattle.core_trees.specs.Positions.{ConfinedFormula, ConfinedItems}
use Rattle.core_sharing.specs.Keeping.{EachShared}
use Rattle.core_sharing.specs.Forms.{SameItems}
use Rattle.core_sharing.specs.Elements.{HaveElements}
use Rattle.core_sharing.specs.Following.{KnowsLengths}
use Rattle.core_sharing.specs.Renumbering.{Run, end_on, StatesAreAlike, Meets}

-- an expression is read as a whole number in the present state
abbrev pub IsNumberNow : List Entry → Bind → Expression → Type 0
IsNumberNow table bind e =
    (maps : Maps) (next : Value → Next Judged)
    → value_now (judging maps table) bind e next
    ≡ value_now (judging maps table) bind e (λ v. next (value.Number (number_in v)))

-- each term that fixes the position is read as a whole number
abbrev pub FixesNumberNow : List Entry → Bind → Item → Type 0
FixesNumberNow table bind (core.Elements type array shift amount span) = Unit {0}
FixesNumberNow table bind (core.Repeated e span) = Unit {0}
FixesNumberNow table bind (core.Committed class e span) = Unit {0}
FixesNumberNow table bind (core.Guarded cuts item span) = FixesNumberNow table bind item
FixesNumberNow table bind (core.Fixed e formula span) = IsNumberNow table bind e

abbrev pub FixNumbersNow : List Entry → Bind → Items → Type 0
FixNumbersNow table bind core.NoItems = Unit {0}
FixNumbersNow table bind (core.Join item items) = FixesNumberNow table bind item × FixNumbersNow table bind items

-- what a formula speaks of in a scene, with what it reads as the old state
abbrev pub bound : Scene → Cells → Bind
bound scene cells = record { scene = scene; old = cells }

-- the formula is inhaled, and then the run goes on
abbrev pub inhaled : List Entry → Bind → Formula → Run → Run
inhaled table bind formula next maps = inhale (judging maps table) bind formula (next maps)

-- so are the items, over this position alone
abbrev pub items_inhaled : List Entry → Bind → Name → ℤ → Items → Run → Run
items_inhaled table bind name position items next maps =
    inhale_items (judging maps table) bind name position (position +ℤ pos 1) items (next maps)

-- From states that are alike, whatever the inhale of the formula at a position comes to, and then what comes next, the inhale of
-- the items over that position alone comes to, too; and the other way round.
pub record AreInhaledAlike (table : List Entry) (scene : Scene) (before before' : Cells) (name : Name) (position : ℤ)
    (formula : Formula) (items : Items) : Type 0 where
  pub formula_first : (one other : Run) → Meets before before' one other
      → Meets before before' (inhaled table (bind_at (bound scene before) name position) formula one)
      (items_inhaled table (bound scene before') name position items other)
  pub items_first : (one other : Run) → Meets before' before one other
      → Meets before' before (items_inhaled table (bound scene before') name position items one)
      (inhaled table (bind_at (bound scene before) name position) formula other)

-- so are a formula and items that are made alike, where the position stands only where it is read, and elements are numbers or
-- truth values
abbrev pub InhalesAlike : Type 0
InhalesAlike =
    (table : List Entry) (scene : Scene) (before before' : Cells) (name : Name) (position : ℤ) (formula : Formula) (items : Items)
    → SameItems name formula items → ConfinedItems name items → HaveElements items
    → FixNumbersNow table (bound scene before) items
    → AreInhaledAlike table scene before before' name position formula items

-- both forms of a contract that members keep, at each position
abbrev pub SharedIsInhaledAlike : Name → Shared → Type 0
SharedIsInhaledAlike name s =
    (table : List Entry) (scene : Scene) (before before' : Cells) (position : ℤ)
    → (FixNumbersNow table (bound scene before) s.each_before
    → AreInhaledAlike table scene before before' name position s.one.before s.each_before)
    × (FixNumbersNow table (bound scene before) s.each_after
    → AreInhaledAlike table scene before before' name position s.one.after s.each_after)

-- in a program both forms of each contract that members keep are inhaled alike
abbrev pub FormsAreInhaledAlike : Program → Type 0
FormsAreInhaledAlike = EachShared SharedIsInhaledAlike

-- From states that are alike the inhale of a formula follows itself, with whatever comes next.
abbrev pub InhalesAgain : Type 0
InhalesAgain =
    (table : List Entry) (scene : Scene) (before before' : Cells) (formula : Formula) (one other : Run) → ConfinedFormula formula
    → Meets before before' one other
    → Meets before before' (inhaled table (bound scene before) formula one) (inhaled table (bound scene before') formula other)

-- What this says where nothing comes next, and both know the same lengths

abbrev pub nothing_next : List Entry → Run
nothing_next table maps = finish (judging maps table)

-- on some picks the run ends so
abbrev pub ComesTo : Run → Maps → State → End → Type 0
ComesTo run taken s end = (picks : List Pick) × (end_on run taken s picks ≡ end)

-- from states that are alike the runs come to the same ends: the one can fail exactly as the other can, and can go on exactly if
-- the other can
pub record EndAlike (before before' : Cells) (one other : Run) : Type 0 where
  pub forth : (taken : Maps) (s : State) (taken' : Maps) (s' : State) (end : End)
      → StatesAreAlike before before' taken s taken' s'
      → s.lengths ≡ s'.lengths → KnowsLengths s.lengths → (end ≡ Blocked → ⊥) → ComesTo one taken s end
      → ComesTo other taken' s' end
  pub back : (taken : Maps) (s : State) (taken' : Maps) (s' : State) (end : End) → StatesAreAlike before before' taken s taken' s'
      → s.lengths ≡ s'.lengths → KnowsLengths s.lengths → (end ≡ Blocked → ⊥) → ComesTo other taken' s' end
      → ComesTo one taken s end

abbrev pub InhalesEndAlike : List Entry → Scene → Cells → Cells → Name → ℤ → Formula → Items → Type 0
InhalesEndAlike table scene before before' name position formula items =
    EndAlike before before'
    (inhaled table (bind_at (bound scene before) name position) formula (nothing_next table))
    (items_inhaled table (bound scene before') name position items (nothing_next table))

-- the inhales of both forms, at each position
abbrev pub SharedEndsAlike : Name → Shared → Type 0
SharedEndsAlike name s =
    (table : List Entry) (scene : Scene) (before before' : Cells) (position : ℤ)
    → (FixNumbersNow table (bound scene before) s.each_before
    → InhalesEndAlike table scene before before' name position s.one.before s.each_before)
    × (FixNumbersNow table (bound scene before) s.each_after
    → InhalesEndAlike table scene before before' name position s.one.after s.each_after)

-- in a program the inhales of both forms of each contract that members keep come to the same ends
abbrev pub FormsEndAlike : Program → Type 0
FormsEndAlike = EachShared SharedEndsAlike
