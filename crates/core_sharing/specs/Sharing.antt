-- Contracts that members keep stand in two forms: formulas at one position, and items for every position. At a position both are
-- met alike, up to the conjunct that isn't met, and ask for the same units at each location.
use Rattle.std.specs.Prelude.{◌≡◌, ℤ}
use Rattle.pv_base.specs.declared.Name.{Name}
use Rattle.pv_values.specs.declared.value.Value.TheVariants as value
use Rattle.pv_values.specs.declared.value.Location.{Location}
use Rattle.pv_picks.specs.Plain.Core.{Program, Shared, Formula, Items, Item}
use Rattle.pv_picks.specs.Formulas.Evaluation.{Scene}
use Rattle.pv_picks.specs.Formulas.Meeting.{Sight, unmet, unmet_items, unmet_item, units_in, units_in_items, units_in_item}
use Rattle.core_sharing.specs.Keeping.{EachShared}

-- in a scene where the name stands for a position, a formula and an item at the position say the same
abbrev pub ItemAgrees : Name → Formula → Item → Type 0
ItemAgrees name f i =
    (sight : Sight) (scene : Scene) (position : ℤ) → scene.variables name.0 ≡ value.Number position
    → (unmet sight scene f ≡ unmet_item sight scene position i)
    × ((spot : Location) → units_in sight scene spot f ≡ units_in_item sight scene spot position i)

-- the same of items
abbrev pub ItemsAgree : Name → Formula → Items → Type 0
ItemsAgree name f is =
    (sight : Sight) (scene : Scene) (position : ℤ) → scene.variables name.0 ≡ value.Number position
    → (unmet sight scene f ≡ unmet_items sight scene position is)
    × ((spot : Location) → units_in sight scene spot f ≡ units_in_items sight scene spot position is)

-- both forms of a contract, for the position of this name
abbrev pub SharedAgrees : Name → Shared → Type 0
SharedAgrees name s = ItemsAgree name s.one.before s.each_before × ItemsAgree name s.one.after s.each_after

-- in a program both forms of each contract that members keep say the same
abbrev pub FormsAgree : Program → Type 0
FormsAgree = EachShared SharedAgrees
