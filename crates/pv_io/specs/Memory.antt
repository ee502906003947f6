-- What a contract sees of a shelf and of a sink in memory. Their calls are counted from 1.
use Rattle.std.specs.Prelude.{ℕ, List}
use Rattle.pv_io.specs.declared.memory.FileEntry.{FileEntry}

-- the files, the rest of the open one, the calls that fail, the calls that were made, and the counts of a shelf
pub record ShelfState : Type 0 where
  pub files : List FileEntry
  pub rest : List ℕ
  pub fails : List ℕ
  pub calls : ℕ
  pub faults : ℕ
  pub hits : ℕ
  pub misses : ℕ
  pub taken : ℕ

-- the bytes written and how many may be, the calls that fail and those that take nothing, the calls that were made, and
-- the count of a sink
pub record SinkState : Type 0 where
  pub written : List ℕ
  pub room : ℕ
  pub fails : List ℕ
  pub empties : List ℕ
  pub calls : ℕ
  pub faults : ℕ
