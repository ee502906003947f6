-- Threads that stand at a step, or have ended.
use Rattle.std.specs.Prelude.{◌≡◌, ℕ, Bool, true, false, ◌&&◌, List, [], ◌∷◌}
use Rattle.pv_picks.specs.Machine.Tasks.{Task, Resume}
use Rattle.pv_picks.specs.Machine.Frames.{Frame}
use Rattle.pv_picks.specs.Machine.Worlds.{World}
use Rattle.machine_laws.specs.Rest.{is_at_rest}

-- no task waits for a call
abbrev pub are_free : List Task → Bool
are_free [] = true
are_free (Resume class method object arguments ∷ rest) = false
are_free (_ ∷ rest) = are_free rest

-- the first task waits for a call, and no other does
abbrev pub await : List Task → Bool
await (Resume class method object arguments ∷ rest) = are_free rest
await _ = false

abbrev pub all_await : List Frame → Bool
all_await [] = true
all_await (f ∷ below) = await f.tasks && all_await below

-- the innermost frame has no work left, and each other one waits for the one above it
abbrev pub is_standing : List Frame → Bool
is_standing [] = true
is_standing (f ∷ below) = (are_free f.tasks && is_at_rest f) && all_await below

abbrev pub AreStanding : World → Type 0
AreStanding w = (j : ℕ) → is_standing (w.threads j).frames ≡ true
