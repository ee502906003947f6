-- How many literals a question may have.
use Rattle.std.specs.Prelude.{ℕ, ◌^◌}

-- fewer literals than this are solved at once
abbrev pub too_many : ℕ
too_many = 2 ^ 20
