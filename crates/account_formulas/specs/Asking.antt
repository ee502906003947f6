-- Units of permission by location, as amounts of the resource that stands there.
use Rattle.std.specs.Prelude.{◌≡◌, ℕ, ℤ, pos, Bool, true, false, ◌&&◌, is_some, if◌then◌else◌, Option, Some, None, IsSome}
use Rattle.pv_base.specs.declared.Name.{Name}
use Rattle.pv_ast.specs.declared.PvType.{PvType}
use Rattle.pv_ast.specs.declared.PvType.TheVariants.{Int, Truth}
use Rattle.pv_values.specs.declared.value.Value.{Value}
use Rattle.pv_values.specs.declared.value.Value.TheVariants as value
use Rattle.pv_values.specs.declared.value.Location.{Location}
use Rattle.pv_values.specs.declared.value.Location.TheVariants as location
use Rattle.pv_base.specs.Names.{same_name}
use Rattle.pv_picks.specs.Formulas.Values.{within}
use Rattle.pv_picks.specs.Formulas.Heaps.{Heap}
use Rattle.pv_picks.specs.Judge.States.{InField, InElement, OfToken, OfLock}
use Rattle.account_formulas.specs.Owning.{Amounts}

-- an object has a class
abbrev pub is_class : Option Name → Name → Bool
is_class None class = false
is_class (Some c) class = same_name c class

-- a value is a whole number or a truth value, as the type of elements says
abbrev pub is_of : PvType → Option Value → Bool
is_of Int (Some (value.Number z)) = true
is_of Truth (Some (value.Truth b)) = true
is_of _ _ = false

-- so many units of each location, to the one resource that stands there
abbrev pub asked : Heap → (Location → ℕ) → Amounts
asked heap u (InField class object name) =
    if is_some (heap.value (location.Field object name))
    && is_class (heap.class object) class then u (location.Field object name) else 0
asked heap u (InElement type array index) =
    if is_of type (heap.value (location.Cell array index)) then u (location.Cell array index) else 0
asked heap u (OfToken token class object) = 0
asked heap u (OfLock class object) = 0

-- each element stands within the length of its array
abbrev pub AreWithinLengths : Heap → Type 0
AreWithinLengths heap =
    (array : ℕ) (index : ℤ) → IsSome (heap.value (location.Cell array index))
    → (n : ℤ) × (heap.length array ≡ Some n) × (within (pos 0) n index ≡ true)
