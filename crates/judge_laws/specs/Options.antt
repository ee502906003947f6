-- What may be missing.
use Rattle.std.specs.Prelude.{Option, Some, None}

-- what comes next of what is there
abbrev pub or_none : {A B : Type 0} → Option A → (A → Option B) → Option B
or_none None next = None
or_none (Some a) next = next a
