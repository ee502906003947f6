-- Amounts of permission, as numbers of units. The whole permission has as many units as each whole number from 1 to 40 divides,
-- so
-- that each part of it is a whole number of units.
use Rattle.std.specs.Prelude.{ℕ, ◌+◌, ◌-◌, Bool, ◌&&◌, nat_le, nat_lt, nat_eq, Option, Some, None, if◌then◌else◌}

-- the least common multiple of 1 to 40
abbrev pub whole : ℕ
whole = 5342931457063200

-- a part that can be written: from 1 of 1 to 40 of 40
abbrev pub is_part : ℕ → ℕ → Bool
is_part a b = nat_le 1 a && nat_le a b && nat_le b 40

-- two amounts together, where that is no more than the whole
abbrev pub together : ℕ → ℕ → Option ℕ
together a b = if nat_le (a + b) whole then Some (a + b) else None

-- what is left when an amount is taken: an amount, nothing, or it is short
pub data Remainder : Type 0 where
  left : ℕ → Remainder
  nothing : Remainder
  short : Remainder

abbrev pub without : ℕ → ℕ → Remainder
without a b = if nat_lt a b then short else if nat_eq a b then nothing else left (a - b)

-- an amount together with what there is, if that is an amount
abbrev pub with_option : ℕ → Option ℕ → Option ℕ
with_option a None = None
with_option a (Some b) = together a b

abbrev pub option_with : Option ℕ → ℕ → Option ℕ
option_with None c = None
option_with (Some b) c = together b c
