-- What steps never take back: threads and blocks that are there, with what they are, and the things of the heap.
use Rattle.std.specs.Prelude.{◌≡◌, ◌≤◌, ◌<◌, ℕ}
use Rattle.pv_picks.specs.Formulas.Heaps.{Heap}
use Rattle.pv_picks.specs.Machine.Worlds.{OpenBlock, World}
use Rattle.pv_picks.specs.Machine.Steps.{Result}

-- all of a block but its messages
pub record IsSameBlock (a b : OpenBlock) : Type 0 where
  pub opener : b.opener ≡ a.opener
  pub low : b.low ≡ a.low
  pub high : b.high ≡ a.high
  pub mode : b.mode ≡ a.mode
  pub first : b.first ≡ a.first
  pub team : b.team ≡ a.team

pub record HeapGrows (h g : Heap) : Type 0 where
  pub count : h.count ≤ g.count
  pub classes : (n : ℕ) → n ≤ h.count → g.class n ≡ h.class n
  pub lengths : (n : ℕ) → n ≤ h.count → g.length n ≡ h.length n

pub record Grows (w v : World) : Type 0 where
  pub threads : w.count ≤ v.count
  pub roles : (j : ℕ) → j < w.count → (v.threads j).role ≡ (w.threads j).role
  pub blocks : w.block_count ≤ v.block_count
  pub same : (b : ℕ) → b < w.block_count → IsSameBlock (w.blocks b) (v.blocks b)
  pub heap : HeapGrows w.heap v.heap

-- a step that goes leads to such a world
abbrev pub LeadsOn : World → Result → Type 0
LeadsOn w (Result.Went v) = Grows w v
LeadsOn w Result.Waits = Unit {0}
LeadsOn w Result.Ended = Unit {0}
LeadsOn w (Result.Wrong check span) = Unit {0}
