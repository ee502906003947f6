-- What a step does to the heap, by the label at which its thread stood.
use Rattle.std.specs.Prelude.{◌≡◌, pos, Option, Some, IsSome}
use Rattle.pv_picks.specs.Plain.Core.{Program}
use Rattle.pv_picks.specs.Formulas.Values.{default_of}
use Rattle.pv_picks.specs.Formulas.Heaps.{Heap, written, with_object, with_array}
use Rattle.pv_picks.specs.Machine.Labels.{Label}
use Rattle.pv_picks.specs.Machine.Worlds.{World}
use Rattle.pv_picks.specs.Machine.Steps.{Result, first_fields}

-- a write, a new object and a new array change the heap, and nothing else does
abbrev pub heap_after : Program → Option Label → Heap → Heap
heap_after p (Some (Label.Write location value)) heap = written heap location value
heap_after p (Some (Label.NewObject class)) heap = with_object heap class (first_fields p class)
heap_after p (Some (Label.NewArray type (pos n))) heap = with_array heap (default_of type) n
heap_after p _ heap = heap

-- what a read, a write and a length are of is there
abbrev pub Finds : Heap → Option Label → Type 0
Finds heap (Some (Label.Read location)) = IsSome (heap.value location)
Finds heap (Some (Label.Write location value)) = IsSome (heap.value location)
Finds heap (Some (Label.Length array)) = IsSome (heap.length array)
Finds heap _ = Unit {0}

-- from one heap to another, as a label says
pub record IsHeapStep (p : Program) (label : Option Label) (heap next : Heap) : Type 0 where
  pub finds : Finds heap label
  pub after : next ≡ heap_after p label heap

-- a result of a step that goes has a property
abbrev pub WhereItGoes : (World → Type 0) → Result → Type 0
WhereItGoes P (Result.Went v) = P v
WhereItGoes P _ = Unit {0}
