-- The answers of the calls that read tokens.
use Rattle.std.specs.Prelude.{ℕ, ◌≡◌, ◌≤◌, ◌-◌, drop, Result, Ok, Err}
use Rattle.pv_reading.specs.declared.fault.ParseFault.{ParseFault}
use Rattle.pv_reading.specs.declared.fault.ParseFault.TheVariants.{Unexpected, TooDeep, NoMemory}
use Rattle.pv_reading.specs.Marks.{Tokens}
use Rattle.pv_reading.specs.Spelled.{Rule, SpellsWithin, IsUnexpected, IsTooDeep, IsLongest, IsUnfinished}

-- All of the tokens are read, up to the end of a text of that length.
abbrev pub ReadsAll : {A : Type 0} → Rule A → ℕ → ℕ → Tokens → Result A ParseFault → Type 0
ReadsAll R limit end tokens (Ok tree) = SpellsWithin R limit tokens tree
ReadsAll R limit end tokens (Err (Unexpected place)) = IsUnexpected R limit end tokens place
ReadsAll R limit end tokens (Err (TooDeep place)) = IsTooDeep R limit tokens place
ReadsAll R limit end tokens (Err NoMemory) = Unit {0}

-- From the token of that number on, as many tokens are read as are the front of something that is spelled. The number of the
-- next one is returned.
abbrev pub ReadsFront : {A : Type 0} → Rule A → ℕ → ℕ → Tokens → ℕ → Result (A × ℕ) ParseFault → Type 0
ReadsFront R limit end tokens from (Ok x) = (from ≤ x.1) × IsLongest R limit (drop from tokens) x.0 (x.1 - from)
ReadsFront R limit end tokens from (Err (Unexpected place)) = IsUnfinished R limit end (drop from tokens) place
ReadsFront R limit end tokens from (Err (TooDeep place)) = IsTooDeep R limit (drop from tokens) place
ReadsFront R limit end tokens from (Err NoMemory) = Unit {0}

-- the answer is this one, unless memory ran out
abbrev pub Answers : {A : Type 0} → Result A ParseFault → A → Type 0
Answers (Ok b) a = b ≡ a
Answers (Err (Unexpected place)) a = ⊥
Answers (Err (TooDeep place)) a = ⊥
Answers (Err NoMemory) a = Unit {0}
