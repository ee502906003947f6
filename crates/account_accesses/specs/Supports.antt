-- What a label's law may build on besides the account: what laws of reached worlds and of verified programs give.
use Rattle.pv_picks.specs.Plain.Core.{Program}
use Rattle.pv_picks.specs.Formulas.Heaps.{Heap}
use Rattle.pv_picks.specs.Machine.Worlds.{World}
use Rattle.pv_picks.specs.Typing.Worlds.{WorldFits}
use Rattle.core_names.specs.Stacks.{StacksFit}
use Rattle.account_formulas.specs.Growing.{HeapFits}
use Rattle.account_formulas.specs.Gaining.{PredicatesFit}

pub record Supports (p : Program) (w : World) : Type 0 where
  -- the world is well typed, and its heap has no negative length
  pub typed : WorldFits p w
  pub heap : HeapFits p w.heap
  -- each frame has just the values that its tasks take
  pub stacks : StacksFit w
  -- in each such heap the body of each predicate can be taken in
  pub predicates : (heap : Heap) → HeapFits p heap → PredicatesFit p heap
