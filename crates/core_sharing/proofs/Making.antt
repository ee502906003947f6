-- Formulas and items that are made alike, where items speak of elements that are numbers or truth values.
use Rattle.pv_base.specs.declared.Name.{Name}
use Rattle.pv_picks.specs.Plain.Core.{Shared, Formula, Items, Item}
use Rattle.pv_picks.specs.Plain.Core as core
use Rattle.pv_picks.specs.Elaborating.Expressions.{together, alone}
use Rattle.core_sharing.specs.Forms.{SameItem, SameItems, SameItems.same_alone, SameItems.same_together, SameShared}
use Rattle.core_sharing.specs.Elements.{HasElements, HaveElements, SharedHasElements}

abbrev pub IsMade : Name → Formula → Item → Type 0
IsMade name f i = SameItem name f i × HasElements i

abbrev pub AreMade : Name → Formula → Items → Type 0
AreMade name f is = SameItems name f is × HaveElements is

abbrev pub SharedIsMade : Name → Shared → Type 0
SharedIsMade name s = AreMade name s.one.before s.each_before × AreMade name s.one.after s.each_after

pub made_alone : (name : Name) (f : Formula) (i : Item) → IsMade name f i → AreMade name f (alone i)
made_alone name f i h = (same_alone h.0, (h.1, tt))

together_elements : (is js : Items) → HaveElements is → HaveElements js → HaveElements (together is js)
together_elements core.NoItems js h k = k
together_elements (core.Join i is) js h k = (h.0, together_elements is js h.1 k)

pub made_together : (name : Name) (f g : Formula) (is js : Items) → AreMade name f is → AreMade name g js
    → AreMade name (core.Star f g) (together is js)
made_together name f g is js h k = (same_together h.0 k.0, together_elements is js h.1 k.1)

pub made_same : (name : Name) (s : Shared) → SharedIsMade name s → SameShared name s
made_same name s h = (h.0.0, h.1.0)

pub made_elements : (name : Name) (s : Shared) → SharedIsMade name s → SharedHasElements name s
made_elements name s h = (h.0.1, h.1.1)
