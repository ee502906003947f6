-- Results that differ in their worlds alone.
use Rattle.std.specs.Prelude.{◌≡◌}
use Rattle.pv_picks.specs.Machine.Steps.{Result}

abbrev pub AreAlike : Result → Result → Type 0
AreAlike (Result.Went v) (Result.Went w) = Unit {0}
AreAlike Result.Waits Result.Waits = Unit {0}
AreAlike Result.Ended Result.Ended = Unit {0}
AreAlike (Result.Wrong a x) (Result.Wrong b y) = (a ≡ b) × (x ≡ y)
AreAlike _ _ = ⊥
