-- What items say of the elements of arrays, they say of numbers or truth values.
use Rattle.pv_base.specs.declared.Name.{Name}
use Rattle.pv_ast.specs.declared.PvType.{PvType}
use Rattle.pv_ast.specs.declared.PvType.TheVariants.{Int, Truth}
use Rattle.pv_picks.specs.Plain.Core.{Program, Shared, Items, Item}
use Rattle.pv_picks.specs.Plain.Core as core
use Rattle.core_sharing.specs.Keeping.{EachShared}

-- a type of elements
abbrev pub IsOfElements : PvType → Type 0
IsOfElements Int = Unit {0}
IsOfElements Truth = Unit {0}
IsOfElements _ = ⊥

-- what an item says of elements has such a type
abbrev pub HasElements : Item → Type 0
HasElements (core.Elements type array shift amount span) = IsOfElements type
HasElements (core.Repeated e span) = Unit {0}
HasElements (core.Committed class e span) = Unit {0}
HasElements (core.Guarded cuts item span) = HasElements item
HasElements (core.Fixed e formula span) = Unit {0}

abbrev pub HaveElements : Items → Type 0
HaveElements core.NoItems = Unit {0}
HaveElements (core.Join item items) = HasElements item × HaveElements items

abbrev pub SharedHasElements : Name → Shared → Type 0
SharedHasElements name s = HaveElements s.each_before × HaveElements s.each_after

-- so it is in a program with each contract that members keep
abbrev pub ItemsHaveElements : Program → Type 0
ItemsHaveElements = EachShared SharedHasElements
