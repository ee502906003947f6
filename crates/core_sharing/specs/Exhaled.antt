-- Both forms of a contract that members keep are exhaled alike at a position.
use Rattle.std.specs.Prelude.{◌≡◌, ℤ, pos, ◌+ℤ◌, List}
use Rattle.pv_base.specs.declared.Span.{Span}
use Rattle.pv_base.specs.declared.Name.{Name}
use Rattle.pv_values.specs.declared.value.Value.{Value}
use Rattle.pv_values.specs.declared.value.Value.TheVariants as value
use Rattle.pv_picks.specs.declared.check.Check.{Check}
use Rattle.pv_picks.specs.declared.evidence.Pick.{Pick}
use Rattle.pv_picks.specs.declared.evidence.Entry.{Entry}
use Rattle.pv_picks.specs.Plain.Core.{Program, Shared, Expression, Formula, Items, Item}
use Rattle.pv_picks.specs.Plain.Core as core
use Rattle.pv_picks.specs.Formulas.Values.{number_in}
use Rattle.pv_picks.specs.Judge.Settings.{Next}
use Rattle.pv_picks.specs.Judge.Exhaling.{Giving, from_at, value_from, exhale, exhale_items}
use Rattle.pv_picks.specs.Judge.States.{State}
use Rattle.pv_picks.specs.Judge.Judging.{finish}
use Rattle.pv_picks.specs.Judge.Runs.{End, Blocked, Failed, Judged, Maps, judging}
use Rattle.core_trees.specs.Positions.{ConfinedItems}
use Rattle.core_sharing.specs.Keeping.{EachShared}
use Rattle.core_sharing.specs.Forms.{SameItems}
use Rattle.core_sharing.specs.Following.{KnowsLengths, AsItEnds, OrFails, Follows}

-- an expression is read as a whole number
abbrev pub IsNumber : Maps → List Entry → Giving → Expression → Type 0
IsNumber maps table f e =
    (next : Value → Next Judged)
    → value_from (judging maps table) f e next ≡ value_from (judging maps table) f e (λ v. next (value.Number (number_in v)))

-- each term that fixes the position is read as a whole number
abbrev pub FixesNumber : Maps → List Entry → Giving → Item → Type 0
FixesNumber maps table f (core.Elements type array shift amount span) = Unit {0}
FixesNumber maps table f (core.Repeated e span) = Unit {0}
FixesNumber maps table f (core.Committed class e span) = Unit {0}
FixesNumber maps table f (core.Guarded cuts item span) = FixesNumber maps table f item
FixesNumber maps table f (core.Fixed e formula span) = IsNumber maps table f e

abbrev pub FixNumbers : Maps → List Entry → Giving → Items → Type 0
FixNumbers maps table f core.NoItems = Unit {0}
FixNumbers maps table f (core.Join item items) = FixesNumber maps table f item × FixNumbers maps table f items

-- Whatever the exhale of the formula at a position comes to, and then what comes next, the exhale of the items over that position
-- alone comes to, too; and whatever that comes to, the formula's comes to, or it fails.
pub record AreExhaledAlike (maps : Maps) (table : List Entry) (f : Giving) (name : Name) (position : ℤ) (formula : Formula)
    (items : Items) : Type 0 where
  pub formula_first : (one other : Next Judged) → Follows AsItEnds one other
      → Follows AsItEnds (exhale (judging maps table) (from_at f name position) formula one)
      (exhale_items (judging maps table) f name position (position +ℤ pos 1) items other)
  pub items_first : (one other : Next Judged) → Follows OrFails one other
      → Follows OrFails (exhale_items (judging maps table) f name position (position +ℤ pos 1) items one)
      (exhale (judging maps table) (from_at f name position) formula other)

-- so are a formula and items that are made alike, where the position stands only where it is read
abbrev pub ExhalesAlike : Type 0
ExhalesAlike =
    (maps : Maps) (table : List Entry) (f : Giving) (name : Name) (position : ℤ) (formula : Formula) (items : Items)
    → SameItems name formula items → ConfinedItems name items → FixNumbers maps table f items
    → AreExhaledAlike maps table f name position formula items

-- both forms of a contract that members keep, at each position
abbrev pub SharedIsExhaledAlike : Name → Shared → Type 0
SharedIsExhaledAlike name s =
    (maps : Maps) (table : List Entry) (f : Giving) (position : ℤ)
    → (FixNumbers maps table f s.each_before → AreExhaledAlike maps table f name position s.one.before s.each_before)
    × (FixNumbers maps table f s.each_after → AreExhaledAlike maps table f name position s.one.after s.each_after)

-- in a program both forms of each contract that members keep are exhaled alike
abbrev pub FormsAreExhaledAlike : Program → Type 0
FormsAreExhaledAlike = EachShared SharedIsExhaledAlike

-- What this says where nothing comes next, and no length that is known is negative

-- on some picks the run ends so
abbrev pub CanEnd : Next Judged → State → End → Type 0
CanEnd run s end = (picks : List Pick) × (run s picks ≡ end)

abbrev pub CanFail : Next Judged → State → Type 0
CanFail run s = (check : Check) × (span : Span) × CanEnd run s (Failed check span)

-- the other run can end as the one can, and fails on some picks only where the one does
pub record FailAlike (one other : Next Judged) : Type 0 where
  pub ends : (s : State) (end : End) → KnowsLengths s.lengths → (end ≡ Blocked → ⊥) → CanEnd one s end → CanEnd other s end
  pub fails : (s : State) → KnowsLengths s.lengths → CanFail other s → CanFail one s

abbrev pub AreFailedAlike : Maps → List Entry → Giving → Name → ℤ → Formula → Items → Type 0
AreFailedAlike maps table f name position formula items =
    FailAlike (exhale (judging maps table) (from_at f name position) formula (finish (judging maps table)))
    (exhale_items (judging maps table) f name position (position +ℤ pos 1) items (finish (judging maps table)))

-- the exhale of the items can end as the formula's can, and fails on some picks only where the formula's does
abbrev pub SharedFailsAlike : Name → Shared → Type 0
SharedFailsAlike name s =
    (maps : Maps) (table : List Entry) (f : Giving) (position : ℤ)
    → (FixNumbers maps table f s.each_before → AreFailedAlike maps table f name position s.one.before s.each_before)
    × (FixNumbers maps table f s.each_after → AreFailedAlike maps table f name position s.one.after s.each_after)

abbrev pub FormsFailAlike : Program → Type 0
FormsFailAlike = EachShared SharedFailsAlike
