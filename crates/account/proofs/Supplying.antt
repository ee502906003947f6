-- Well typed heaps fit.
use Rattle.std.proofs.Common.{◌≡◌, ℕ, suc, ℤ, pos, true, Some}
use Rattle.std.specs.Prelude.{int_le}
use Rattle.pv_picks.specs.Plain.Core.{Program}
use Rattle.pv_picks.specs.Formulas.Heaps.{Heap}
use Rattle.pv_picks.specs.Machine.Starts.{field_kind}
use Rattle.pv_picks.specs.Typing.Heaps.{IsTypedHeap}
use Rattle.machine_laws.proofs.Lengths.{reached-elements}
use Rattle.machine_laws.proofs.Reached.{reached-fits}
use Rattle.account_formulas.specs.Growing.{HeapFits}
use Rattle.account.specs.Grounds.{HeapsFit}

-- a well typed heap fits, where no length is negative
pub heap_fits : (p : Program) (heap : Heap) → IsTypedHeap (field_kind p) heap
    → ((array : ℕ) (n : ℤ) → heap.length array ≡ Some n → int_le (pos 0) n ≡ true) → HeapFits p heap
heap_fits p heap typed natural = record {
  now = record {
    fields = λ o class name v is at. typed.fields (suc o) class name v is at;
    numbers = λ a h. h;
    truths = λ a h. h;
    no_fields = typed.null.fields;
    no_elements = typed.null.elements;
    beyond_fields = λ n name k. (typed.beyond n k).fields name;
    beyond_elements = λ n i k. (typed.beyond n k).elements i;
  };
  beyond = typed.beyond;
  natural = natural;
}

pub heaps_fit : HeapsFit
heaps_fit p fits w reached = heap_fits p w.heap (reached-fits p fits w reached).heap (reached-elements p w reached).natural
