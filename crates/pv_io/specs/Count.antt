-- Counters of 64 bits that stand still at their last value.
use Rattle.std.specs.Prelude.{ℕ, ◌+◌, ◌-◌, ◌^◌, ◌≤◌, min}

-- the last value of a counter
abbrev pub last_count : ℕ
last_count = 2 ^ 64 - 1

-- the counter after so many more
abbrev pub counted : ℕ → ℕ → ℕ
counted count more = min (count + more) last_count

-- the counter has risen, where one that stands at its last value counts as risen
abbrev pub HasRisen : ℕ → ℕ → Type 0
HasRisen old new = counted old 1 ≤ new
