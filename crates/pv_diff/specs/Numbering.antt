-- Numbers for all symbols: those of differences keep theirs, and references have that of their class.
use Rattle.std.specs.Prelude.{ℕ, ℤ, pos, ◌≡◌, ◌⊎◌, List, Some, slice_get, slice_index_or}
use Rattle.pv_diff.specs.Classes.{class_at}

-- the number of symbol x is the class of its slot
pub record IsClassNumber (references classes : List ℕ) (x : ℕ) (n : ℤ) : Type 0 where
  pub slot : ℕ
  pub there : slice_get references slot ≡ Some x
  pub number : n ≡ pos (class_at classes slot)

-- each number is the old one or that of a class, and references have that of their class
pub record AreNumbered (references classes : List ℕ) (old new : List ℤ) : Type 0 where
  pub each : (x : ℕ) → (slice_index_or new x (pos 0) ≡ slice_index_or old x (pos 0)) ⊎ IsClassNumber references classes x
      (slice_index_or new x (pos 0))
  pub classed : (slot x : ℕ) → slice_get references slot ≡ Some x → slice_index_or new x (pos 0) ≡ pos (class_at classes slot)
