-- Well typed heaps.
use Rattle.std.specs.Prelude.{◌≡◌, ◌⊎◌, ℕ, zero, suc, ℤ, Bool, true, false, Option, Some, None, IsSome, IsTrue}
use Rattle.pv_base.specs.declared.Name.{Name}
use Rattle.pv_values.specs.declared.value.Value.{Value}
use Rattle.pv_values.specs.declared.value.Value.TheVariants.{Number, Truth, Reference}
use Rattle.pv_values.specs.declared.value.Location.{Location}
use Rattle.pv_values.specs.declared.value.Location.TheVariants.{Field, Cell}
use Rattle.pv_values.specs.Heaps.{Things, value_at, class_of, length_of}

-- what a variable or a field may hold: null is a reference of each kind of object and array
pub data Kind : Type 0 where
  numbers : Kind
  truths : Kind
  objects : Name → Kind
  int_arrays : Kind
  truth_arrays : Kind
  -- null alone
  nulls : Kind

abbrev pub is_number : Value → Bool
is_number (Number z) = true
is_number (Truth b) = false
is_number (Reference n) = false

abbrev pub is_truth : Value → Bool
is_truth (Number z) = false
is_truth (Truth b) = true
is_truth (Reference n) = false

-- each element of an array passes a test
abbrev pub HoldsOnly : (Value → Bool) → Things → ℕ → Type 0
HoldsOnly test heap array = (index : ℤ) (value : Value) → value_at heap (Cell array index) ≡ Some value → IsTrue (test value)

abbrev pub IsArrayOf : (Value → Bool) → Things → ℕ → Type 0
IsArrayOf test heap n = IsSome (length_of heap n) × HoldsOnly test heap n

-- null, or a reference to what has a property
abbrev pub Refers : (ℕ → Type 0) → Value → Type 0
Refers P (Number z) = ⊥
Refers P (Truth b) = ⊥
Refers P (Reference zero) = Unit {0}
Refers P (Reference (suc n)) = P (suc n)

abbrev pub HasKind : Things → Kind → Value → Type 0
HasKind heap numbers value = IsTrue (is_number value)
HasKind heap truths value = IsTrue (is_truth value)
HasKind heap (objects class) value = Refers (λ n. class_of heap n ≡ Some class) value
HasKind heap int_arrays value = Refers (IsArrayOf is_number heap) value
HasKind heap truth_arrays value = Refers (IsArrayOf is_truth heap) value
HasKind heap nulls value = Refers (λ n. ⊥) value

-- no value has the kind of a field that isn't there
abbrev pub HasKindOf : Things → Option Kind → Value → Type 0
HasKindOf heap None value = ⊥
HasKindOf heap (Some kind) value = HasKind heap kind value

-- each value has the kind of its location, an array holds whole numbers alone or truth values alone, and each object has the
-- fields of its class
pub record IsWellTyped (kind_of_field : Name → Name → Option Kind) (heap : Things) : Type 0 where
  pub fields : (object : ℕ) (class name : Name) (value : Value) → class_of heap object ≡ Some class
      → value_at heap (Field object name) ≡ Some value
      → HasKindOf heap (kind_of_field class name) value
  pub elements : (array : ℕ) → HoldsOnly is_number heap array ⊎ HoldsOnly is_truth heap array
  pub complete : (object : ℕ) (class name : Name) → class_of heap object ≡ Some class → IsSome (kind_of_field class name)
      → IsSome (value_at heap (Field object name))

-- a value has the kind of a location
abbrev pub FitsAt : (Name → Name → Option Kind) → Things → Location → Value → Type 0
FitsAt kind_of_field heap (Field object name) value =
    (class : Name) → class_of heap object ≡ Some class → HasKindOf heap (kind_of_field class name) value
FitsAt kind_of_field heap (Cell array index) value =
    (HoldsOnly is_number heap array × IsTrue (is_number value)) ⊎ (HoldsOnly is_truth heap array × IsTrue (is_truth value))
