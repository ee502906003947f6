-- Numbers beyond the count of the heap, which no object has: nothing was done with them.
use Rattle.std.specs.Prelude.{◌≡◌, ◌<◌, ℕ, false, None}
use Rattle.pv_picks.specs.Machine.Worlds.{RunOf, ThreadState, World}

-- the number is idle, uncommitted and unlocked, and no thread runs the `run` of it
pub record IsFresh (w : World) (n : ℕ) : Type 0 where
  pub state : w.state n ≡ ThreadState.Idle
  pub committed : w.committed n ≡ false
  pub holder : w.holder n ≡ None
  pub role : (j : ℕ) → (w.threads j).role ≡ RunOf n → ⊥

abbrev pub BeyondIsFresh : World → Type 0
BeyondIsFresh w = (n : ℕ) → w.heap.count < n → IsFresh w n
