-- Well typed heaps in the terms of pv_values, for heaps as functions, and the steps that keep to them.
use Rattle.std.specs.Prelude.{◌≡◌, ◌⊎◌, ◌<◌, ℕ, ℤ, Bool, Option, Some, None, IsSome, IsTrue}
use Rattle.pv_base.specs.declared.Name.{Name}
use Rattle.pv_ast.specs.declared.PvType.TheVariants.{Int, Truth}
use Rattle.pv_values.specs.declared.value.Value.{Value}
use Rattle.pv_values.specs.declared.value.Location.{Location}
use Rattle.pv_values.specs.declared.value.Location.TheVariants.{Field, Cell}
use Rattle.pv_values.specs.Typing.{Kind, numbers, truths, objects, int_arrays, truth_arrays, nulls, is_number, is_truth, Refers}
use Rattle.pv_picks.specs.Formulas.Heaps.{Heap}
use Rattle.pv_picks.specs.Machine.Labels.{Label}

-- each element of an array passes a test
abbrev pub HoldsOnly : (Value → Bool) → Heap → ℕ → Type 0
HoldsOnly test heap array = (index : ℤ) (value : Value) → heap.value (Cell array index) ≡ Some value → IsTrue (test value)

abbrev pub IsArrayOf : (Value → Bool) → Heap → ℕ → Type 0
IsArrayOf test heap n = IsSome (heap.length n) × HoldsOnly test heap n

-- null, too, is a reference of each kind
abbrev pub HasKind : Heap → Kind → Value → Type 0
HasKind heap numbers value = IsTrue (is_number value)
HasKind heap truths value = IsTrue (is_truth value)
HasKind heap (objects class) value = Refers (λ n. heap.class n ≡ Some class) value
HasKind heap int_arrays value = Refers (IsArrayOf is_number heap) value
HasKind heap truth_arrays value = Refers (IsArrayOf is_truth heap) value
HasKind heap nulls value = Refers (λ n. ⊥) value

-- no value has the kind of a field that isn't there
abbrev pub HasKindOf : Heap → Option Kind → Value → Type 0
HasKindOf heap None value = ⊥
HasKindOf heap (Some kind) value = HasKind heap kind value

-- nothing has the number
pub record IsUnused (heap : Heap) (n : ℕ) : Type 0 where
  pub class : heap.class n ≡ None
  pub length : heap.length n ≡ None
  pub fields : (name : Name) → heap.value (Field n name) ≡ None
  pub elements : (index : ℤ) → heap.value (Cell n index) ≡ None

-- each value has the kind of its location, an array holds whole numbers alone or truth values alone, each object has the fields
-- of its class, and beyond the count there is nothing, nor at null
pub record IsTypedHeap (kind_of_field : Name → Name → Option Kind) (heap : Heap) : Type 0 where
  pub fields : (object : ℕ) (class name : Name) (value : Value) → heap.class object ≡ Some class
      → heap.value (Field object name) ≡ Some value
      → HasKindOf heap (kind_of_field class name) value
  pub elements : (array : ℕ) → HoldsOnly is_number heap array ⊎ HoldsOnly is_truth heap array
  pub complete : (object : ℕ) (class name : Name) → heap.class object ≡ Some class → IsSome (kind_of_field class name)
      → IsSome (heap.value (Field object name))
  pub null : IsUnused heap 0
  pub beyond : (n : ℕ) → heap.count < n → IsUnused heap n

-- a value has the kind of a location
abbrev pub FitsAt : (Name → Name → Option Kind) → Heap → Location → Value → Type 0
FitsAt kind_of_field heap (Field object name) value =
    (class : Name) → heap.class object ≡ Some class → HasKindOf heap (kind_of_field class name) value
FitsAt kind_of_field heap (Cell array index) value =
    (HoldsOnly is_number heap array × IsTrue (is_number value)) ⊎ (HoldsOnly is_truth heap array × IsTrue (is_truth value))

-- what is written has the kind of its location, and a new array is one of whole numbers or of truth values
abbrev pub KeepsKinds : (Name → Name → Option Kind) → Heap → Option Label → Type 0
KeepsKinds kind_of_field heap (Some (Label.Write location value)) = FitsAt kind_of_field heap location value
KeepsKinds kind_of_field heap (Some (Label.NewArray type length)) = (type ≡ Int) ⊎ (type ≡ Truth)
KeepsKinds kind_of_field heap _ = Unit {0}
