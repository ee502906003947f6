-- Arrays of a heap with their elements.
use Rattle.std.specs.Prelude.{◌≡◌, ℕ, ℤ, pos, Bool, true, false, ◌&&◌, int_le, int_lt, is_some, Option, Some, None}
use Rattle.pv_values.specs.declared.value.Location.TheVariants.{Cell}
use Rattle.pv_picks.specs.Formulas.Heaps.{Heap}

-- whether an index is one of an array of a length: from 0 to below it; what is no array has none
abbrev pub is_index : Option ℤ → ℤ → Bool
is_index None index = false
is_index (Some n) index = int_le (pos 0) index && int_lt index n

-- no length is negative, and an array has elements at its indices and nowhere else
pub record HasItsElements (heap : Heap) : Type 0 where
  pub natural : (array : ℕ) (n : ℤ) → heap.length array ≡ Some n → int_le (pos 0) n ≡ true
  pub elements : (array : ℕ) (index : ℤ) → is_some (heap.value (Cell array index)) ≡ is_index (heap.length array) index
