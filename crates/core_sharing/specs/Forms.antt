-- Contracts that members keep stand in two forms: formulas at one position, and items for every position. How the one form is
-- made like the other, part by part.
use Rattle.std.specs.Prelude.{◌≡◌, ℕ, ℤ, true, Some}
use Rattle.pv_base.specs.declared.Name.{Name}
use Rattle.pv_base.specs.declared.Span.{Span}
use Rattle.pv_ast.specs.declared.PvType.{PvType}
use Rattle.pv_ast.specs.declared.Token.TheVariants as token
use Rattle.pv_picks.specs.Plain.Core.{Program, Shared, Expression, Formula, Items, Item}
use Rattle.pv_picks.specs.Plain.Core as core
use Rattle.pv_picks.specs.Machine.Starts.{true_formula}
use Rattle.pv_picks.specs.Judge.Repetitions.{shift_in}
use Rattle.pv_picks.specs.Elaborating.Operations.{cuts_of}
use Rattle.pv_picks.specs.Elaborating.Expressions.{together, alone}
use Rattle.core_sharing.specs.Keeping.{EachShared}

-- the index is the position of this name with so much added
abbrev pub IsShifted : Name → ℤ → Expression → Type 0
IsShifted name shift index = shift_in name index ≡ Some shift

-- a formula at one position, and an item for every position
pub data SameItem (name : Name) : Formula → Item → Type 0 where
  -- a condition
  same_fact : {e : Expression} {span : Span} → SameItem name (core.Fact e span) (core.Repeated e span)
  -- the permission of an element
  same_element : {type : PvType} {array index : Expression} {shift : ℤ} {units : ℕ} {span : Span}
      → IsShifted name shift index
      → SameItem name (core.ElementPermission type array index units span) (core.Elements type array shift units span)
  same_committed : {class : Name} {e : Expression} {span : Span}
      → SameItem name (core.Holds token.Committed class e span) (core.Committed class e span)
  -- a condition as guards; where the formula behind it is a condition too, both may be one
  same_guarded : {x : Expression} {f : Formula} {i : Item} {span : Span}
      → SameItem name f i → SameItem name (core.When x f span) (core.Guarded (cuts_of name x) i span)
  same_implied : {x y : Expression} {i : Item} {span : Span}
      → SameItem name (core.Fact y span) i
      → SameItem name (core.Fact (core.Implies x y) span) (core.Guarded (cuts_of name x) i span)
  -- what is said of one position, with the same choice
  same_fixed : {y : Expression} {f : Formula} {span : Span}
      → SameItem name (core.When (core.Equal true (core.Variable name) y) f span) (core.Fixed y f span)
  same_fixed_fact : {y z : Expression} {span : Span}
      → SameItem name (core.Fact (core.Implies (core.Equal true (core.Variable name) y) z) span)
      (core.Fixed y (core.Fact z span) span)

pub data SameItems (name : Name) : Formula → Items → Type 0 where
  same_nothing : SameItems name true_formula core.NoItems
  same_alone : {f : Formula} {i : Item} → SameItem name f i → SameItems name f (alone i)
  same_together : {f g : Formula} {is js : Items}
      → SameItems name f is → SameItems name g js → SameItems name (core.Star f g) (together is js)

-- both forms of a contract, for the position of this name
abbrev pub SameShared : Name → Shared → Type 0
SameShared name s = SameItems name s.one.before s.each_before × SameItems name s.one.after s.each_after

-- in a program both forms of each contract that members keep are made alike
abbrev pub FormsCorrespond : Program → Type 0
FormsCorrespond = EachShared SameShared
