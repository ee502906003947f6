-- What changes a heap: a new object, a new array, a write.
use Rattle.std.specs.Prelude.{◌≡◌, ◌≢◌, ℕ, suc, ℤ, pos, ◌&&◌, int_le, int_lt, Option, Some, None, if◌then◌else◌}
use Rattle.pv_base.specs.declared.Name.{Name}
use Rattle.pv_values.specs.declared.value.Value.{Value}
use Rattle.pv_values.specs.declared.value.Location.{Location}
use Rattle.pv_values.specs.declared.value.Location.TheVariants.{Field, Cell}
use Rattle.pv_values.specs.declared.thing.Thing.{Thing}
use Rattle.pv_values.specs.Heaps.{Fields, field_value, field_in, element_in, class_in, length_in, same_number, same_location, Things, value_at, class_of, length_of, count_of}
use Rattle.pv_base.specs.Names.{same_name}

-- the object or the array of a location
abbrev pub owner_of : Location → ℕ
owner_of (Field object name) = object
owner_of (Cell array index) = array

-- everything is the same, but for what one number names
pub record IsSameBesides (number : ℕ) (old new : Things) : Type 0 where
  pub classes : (n : ℕ) → n ≢ number → class_of new n ≡ class_of old n
  pub lengths : (n : ℕ) → n ≢ number → length_of new n ≡ length_of old n
  pub values : (location : Location) → owner_of location ≢ number → value_at new location ≡ value_at old location

-- the next number names an object
pub record IsWithObject (named : Name) (given : Fields) (object : ℕ) (old new : Things) : Type 0 where
  pub number : object ≡ suc (count_of old)
  pub count : count_of new ≡ object
  pub class : class_of new object ≡ Some named
  pub length : length_of new object ≡ None
  pub fields : (name : Name) → value_at new (Field object name) ≡ field_value given name
  pub elements : (index : ℤ) → value_at new (Cell object index) ≡ None
  pub others : IsSameBesides object old new

-- the element at each index of an array whose elements are one value
abbrev pub element_of_all : Value → ℕ → ℤ → Option Value
element_of_all value size index = if int_le (pos 0) index && int_lt index (pos size) then Some value else None

-- the next number names an array
pub record IsWithArray (value : Value) (size : ℕ) (array : ℕ) (old new : Things) : Type 0 where
  pub number : array ≡ suc (count_of old)
  pub count : count_of new ≡ array
  pub class : class_of new array ≡ None
  pub length : length_of new array ≡ Some (pos size)
  pub fields : (name : Name) → value_at new (Field array name) ≡ None
  pub elements : (index : ℤ) → value_at new (Cell array index) ≡ element_of_all value size index
  pub others : IsSameBesides array old new

-- an object with another value in one field
pub record IsThingWithField (name : Name) (value : Value) (old new : Thing) : Type 0 where
  pub fields : (other : Name) → field_in (Some new) other
      ≡ (if same_name other name then Some value else field_in (Some old) other)
  pub elements : (index : ℤ) → element_in (Some new) index ≡ element_in (Some old) index
  pub class : class_in (Some new) ≡ class_in (Some old)
  pub length : length_in (Some new) ≡ length_in (Some old)

-- an array with another element
pub record IsThingWithElement (index : ℤ) (value : Value) (old new : Thing) : Type 0 where
  pub fields : (name : Name) → field_in (Some new) name ≡ field_in (Some old) name
  pub elements : (other : ℤ) → element_in (Some new) other
      ≡ (if same_number other index then Some value else element_in (Some old) other)
  pub class : class_in (Some new) ≡ class_in (Some old)
  pub length : length_in (Some new) ≡ length_in (Some old)

-- one location has another value
pub record IsWritten (location : Location) (value : Value) (old new : Things) : Type 0 where
  pub reads : (other : Location) → value_at new other ≡ (if same_location other location then Some value else value_at old other)
  pub classes : (n : ℕ) → class_of new n ≡ class_of old n
  pub lengths : (n : ℕ) → length_of new n ≡ length_of old n
