-- In a reached heap no length is negative, and each array has the elements at its indices and no others.
use Rattle.std.proofs.Common.{◌≡◌, ◌⊎◌, inl, inr, ◌<◌, ◌≤◌, get_or, ℕ, suc, ℤ, pos, negsuc, Bool, true, false, ◌&&◌, cond, Option, Some, None, IsSome, is_some, List, [], ◌∷◌, length, slice_get, nat_eq, refl, sym, subst, ◌∙◌, ap, arith}
use Rattle.std.specs.Prelude.{int_le, int_lt, if◌then◌else◌}
use Rattle.std.proofs.lemmas.Option.{same_Some, slice_get_cases}
use Rattle.std.proofs.lemmas.Bool.{le-leb, lt-ltb, le-ltb}
use Rattle.pv_base.specs.declared.Name.{Name}
use Rattle.pv_values.specs.declared.value.Value.{Value}
use Rattle.pv_values.specs.declared.value.Location.{Location}
use Rattle.pv_values.specs.declared.value.Location.TheVariants.{Cell}
use Rattle.pv_values.specs.declared.thing.Thing.{Thing}
use Rattle.pv_values.specs.declared.thing.Thing.TheVariants as thing
use Rattle.pv_values.specs.Heaps.{Things, thing_at, element_in, length_in, same_location}
use Rattle.pv_values.specs.Changes.{element_of_all}
use Rattle.pv_picks.specs.Plain.Core.{Program}
use Rattle.pv_picks.specs.Formulas.Values.{default_of}
use Rattle.pv_picks.specs.Formulas.Heaps.{Heap, heap_of, written, with_object, with_array}
use Rattle.pv_picks.specs.Machine.Labels.{Label}
use Rattle.pv_picks.specs.Machine.Starts.{first_world}
use Rattle.pv_picks.specs.Machine.Worlds.{World, next}
use Rattle.pv_picks.specs.Machine.Steps.{Result, first_fields, act}
use Rattle.pv_picks.specs.Machine.Safety.{Event, IsReached, world_after, happens, run_events}
use Rattle.machine_laws.specs.HeapSteps.{heap_after, Finds, IsHeapStep}
use Rattle.machine_laws.specs.Lengths.{is_index, HasItsElements}
use Rattle.machine_laws.proofs.HeapSteps.{act-does}
use Rattle.machine_laws.proofs.Typed.{location_same}

-- Lists of things.

from_zero : (n : ℕ) → int_le (pos 0) (pos n) ≡ true
from_zero n = le-leb 0 n (omega arith)

both_hold : (a b : Bool) → a ≡ true → b ≡ true → (a && b) ≡ true
both_hold true b h k = k
both_hold false b h k = absurd (cc)

second_fails : (a b : Bool) → b ≡ false → (a && b) ≡ false
second_fails true b h = h
second_fails false b h = refl

-- a list has elements at the numbers below its length
there : {A : Type 0} (xs : List A) (n : ℕ) → is_some (slice_get xs n) ≡ is_index (Some (pos (length xs))) (pos n)
there {A} xs n = go (slice_get_cases xs n).1
  where
    go : ((x : A) × (n < length xs) × (slice_get xs n ≡ Some x) × (get_or xs n x ≡ x))
        ⊎ ((length xs ≤ n) × (slice_get xs n ≡ None))
        → is_some (slice_get xs n) ≡ is_index (Some (pos (length xs))) (pos n)
    go (inl h) =
        ap is_some h.2
        ∙ sym (both_hold (int_le (pos 0) (pos n)) (int_lt (pos n) (pos (length xs))) (from_zero n) (lt-ltb n (length xs) h.1))
    go (inr h) =
        ap is_some h.1
        ∙ sym (second_fails (int_le (pos 0) (pos n)) (int_lt (pos n) (pos (length xs))) (le-ltb n (length xs) h.0))

thing_elements : (t : Option Thing) (index : ℤ) → is_some (element_in t index) ≡ is_index (length_in t) index
thing_elements None index = refl
thing_elements (Some (thing.Object class fields)) index = refl
thing_elements (Some (thing.Array elements)) (pos n) = there elements n
thing_elements (Some (thing.Array elements)) (negsuc n) = refl

thing_length : (t : Option Thing) (n : ℤ) → length_in t ≡ Some n → int_le (pos 0) n ≡ true
thing_length None n e = absurd (cc)
thing_length (Some (thing.Object class fields)) n e = absurd (cc)
thing_length (Some (thing.Array elements)) n e = subst (λ z. int_le (pos 0) z ≡ true) (same_Some (pos (length elements)) n e)
    (from_zero (length elements))

first_elements : (things : Things) → HasItsElements (heap_of things)
first_elements things = record {
  natural = λ array n e. thing_length (thing_at things array) n e;
  elements = λ array index. thing_elements (thing_at things array) index;
}

-- Changes.

-- a write where something stands
still_there : (b : Bool) (v : Value) (o : Option Value) → (b ≡ true → IsSome o) → is_some (cond b (Some v) o) ≡ is_some o
still_there true v o h = sym (h refl)
still_there false v o h = refl

written_elements : (heap : Heap) (location : Location) (v : Value) → IsSome (heap.value location) → HasItsElements heap
    → HasItsElements (written heap location v)
written_elements heap location v found h = record {
  natural = h.natural;
  elements = λ array index.
      still_there (same_location (Cell array index) location) v (heap.value (Cell array index))
      (λ t. subst (λ l. IsSome (heap.value l)) (sym (location_same (Cell array index) location t)) found)
      ∙ h.elements array index;
}

object_elements : (heap : Heap) (p : Program) (class : Name) → HasItsElements heap
    → HasItsElements (with_object heap class (first_fields p class))
object_elements heap p class h = record { natural = h.natural; elements = h.elements }

some_if : (b : Bool) (v : Value) → is_some (if b then Some v else None) ≡ b
some_if true v = refl
some_if false v = refl

-- the new array, or another one
new_length : (b : Bool) (size : ℕ) (o : Option ℤ) (n : ℤ) → (o ≡ Some n → int_le (pos 0) n ≡ true)
    → cond b (Some (pos size)) o ≡ Some n → int_le (pos 0) n ≡ true
new_length true size o n h e = subst (λ z. int_le (pos 0) z ≡ true) (same_Some (pos size) n e) (from_zero size)
new_length false size o n h e = h e

new_elements : (b : Bool) (first : Value) (size : ℕ) (index : ℤ) (v : Option Value) (o : Option ℤ) → is_some v ≡ is_index o index
    → is_some (cond b (element_of_all first size index) v) ≡ is_index (cond b (Some (pos size)) o) index
new_elements true first size index v o h = some_if (int_le (pos 0) index && int_lt index (pos size)) first
new_elements false first size index v o h = h

array_elements : (heap : Heap) (first : Value) (size : ℕ) → HasItsElements heap → HasItsElements (with_array heap first size)
array_elements heap first size h = record {
  natural = λ array n e. new_length (nat_eq array (suc heap.count)) size (heap.length array) n (h.natural array n) e;
  elements = λ array index. new_elements (nat_eq array (suc heap.count)) first size index (heap.value (Cell array index))
      (heap.length array) (h.elements array index);
}

-- Steps and runs.

label_elements : (p : Program) (label : Option Label) (heap : Heap) → Finds heap label → HasItsElements heap
    → HasItsElements (heap_after p label heap)
label_elements p None heap found h = h
label_elements p (Some (Label.Read location)) heap found h = h
label_elements p (Some (Label.Write location v)) heap found h = written_elements heap location v found h
label_elements p (Some (Label.Length array)) heap found h = h
label_elements p (Some (Label.NewObject class)) heap found h = object_elements heap p class h
label_elements p (Some (Label.NewArray type (pos n))) heap found h = array_elements heap (default_of type) n h
label_elements p (Some (Label.NewArray type (negsuc n))) heap found h = h
label_elements p (Some Label.Check) heap found h = h
label_elements p (Some (Label.Call object)) heap found h = h
label_elements p (Some Label.Return) heap found h = h
label_elements p (Some (Label.Fork object)) heap found h = h
label_elements p (Some (Label.Join object)) heap found h = h
label_elements p (Some (Label.Lock object)) heap found h = h
label_elements p (Some (Label.Unlock object)) heap found h = h
label_elements p (Some (Label.Commit object)) heap found h = h
label_elements p (Some (Label.Open low high)) heap found h = h
label_elements p (Some Label.End) heap found h = h
label_elements p (Some Label.Close) heap found h = h
label_elements p (Some Label.Arrive) heap found h = h
label_elements p (Some Label.Leave) heap found h = h
label_elements p (Some (Label.Send position)) heap found h = h
label_elements p (Some (Label.Receive position)) heap found h = h

happens_elements : (p : Program) (event : Event) (w : World) → HasItsElements w.heap → HasItsElements (happens p event w).heap
happens_elements p event w h = go (act p w event.mode event.thread) refl
  where
    go : (r : Result) → act p w event.mode event.thread ≡ r → HasItsElements (world_after w r).heap
    go (Result.Went v) e =
        let s : IsHeapStep p (next (w.threads event.thread)) w.heap v.heap = act-does p w v event.mode event.thread e in
        subst (λ heap. HasItsElements heap) (sym s.after) (label_elements p (next (w.threads event.thread)) w.heap s.finds h)
    go Result.Waits e = h
    go Result.Ended e = h
    go (Result.Wrong named span) e = h

run_elements : (p : Program) (events : List Event) (w : World) → HasItsElements w.heap
    → HasItsElements (run_events p events w).heap
run_elements p [] w h = h
run_elements p (event ∷ events) w h = run_elements p events (happens p event w) (happens_elements p event w h)

-- each reached heap has its elements
pub reached-elements : (p : Program) (w : World) → IsReached p w → HasItsElements w.heap
reached-elements p w r =
    subst (λ v. HasItsElements v.heap) r.leads (run_elements p r.events (first_world r.start) (first_elements r.start.heap))
