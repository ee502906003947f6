-- Heaps as finite maps from locations to values. Objects and arrays are numbered together from 1, in the order of the list, and 0
-- is null.
use Rattle.std.specs.Prelude.{◌≡◌, ℕ, zero, suc, ℤ, pos, negsuc, Bool, false, ◌&&◌, nat_eq, int_le, Option, Some, None, List, [], ◌∷◌, length, slice_get, if◌then◌else◌}
use Rattle.pv_base.specs.declared.Name.{Name}
use Rattle.pv_base.specs.Names.{same_name}
use Rattle.pv_values.specs.declared.value.Value.{Value}
use Rattle.pv_values.specs.declared.value.Location.{Location}
use Rattle.pv_values.specs.declared.value.Location.TheVariants.{Field, Cell}
use Rattle.pv_values.specs.declared.thing.Thing.{Thing}
use Rattle.pv_values.specs.declared.thing.Thing.TheVariants.{Object, Array}

abbrev pub same_number : ℤ → ℤ → Bool
same_number a b = int_le a b && int_le b a

abbrev pub same_location : Location → Location → Bool
same_location (Field a f) (Field b g) = nat_eq a b && same_name f g
same_location (Field a f) (Cell b j) = false
same_location (Cell a i) (Field b g) = false
same_location (Cell a i) (Cell b j) = nat_eq a b && same_number i j

abbrev pub Fields : Type 0
Fields = List (Name × Value)

-- the value of the first field that has the name
abbrev pub field_value : Fields → Name → Option Value
field_value [] name = None
field_value (f ∷ fs) name = if same_name name f.0 then Some f.1 else field_value fs name

-- indices go from 0 to below the length
abbrev pub element : List Value → ℤ → Option Value
element elements (pos index) = slice_get elements index
element elements (negsuc index) = None

abbrev pub field_in : Option Thing → Name → Option Value
field_in None name = None
field_in (Some (Object class fields)) name = field_value fields name
field_in (Some (Array elements)) name = None

abbrev pub element_in : Option Thing → ℤ → Option Value
element_in None index = None
element_in (Some (Object class fields)) index = None
element_in (Some (Array elements)) index = element elements index

abbrev pub class_in : Option Thing → Option Name
class_in None = None
class_in (Some (Object class fields)) = Some class
class_in (Some (Array elements)) = None

abbrev pub length_in : Option Thing → Option ℤ
length_in None = None
length_in (Some (Object class fields)) = None
length_in (Some (Array elements)) = Some (pos (length elements))

abbrev pub Things : Type 0
Things = List Thing

-- what a number names
abbrev pub thing_at : Things → ℕ → Option Thing
thing_at heap zero = None
thing_at heap (suc n) = slice_get heap n

abbrev pub value_at : Things → Location → Option Value
value_at heap (Field object name) = field_in (thing_at heap object) name
value_at heap (Cell array index) = element_in (thing_at heap array) index

-- None where the number is no object's
abbrev pub class_of : Things → ℕ → Option Name
class_of heap n = class_in (thing_at heap n)

-- None where the number is no array's
abbrev pub length_of : Things → ℕ → Option ℤ
length_of heap n = length_in (thing_at heap n)

-- the greatest number in use
abbrev pub count_of : Things → ℕ
count_of heap = length heap

-- two heaps that are one map
pub record AreSame (a b : Things) : Type 0 where
  pub counts : count_of a ≡ count_of b
  pub classes : (n : ℕ) → class_of a n ≡ class_of b n
  pub lengths : (n : ℕ) → length_of a n ≡ length_of b n
  pub values : (location : Location) → value_at a location ≡ value_at b location
