use Rattle.std.proofs.Common.{◌≡◌, ◌≤◌, take}
use Rattle.pv_tokens.specs.Bytes.{decimal, most}
use Rattle.pv_tokens.proofs.reading.number.Given as goal

-- the number of the digits so far
abbrev pub invariant-loop-b : goal.invariant-loop-b
invariant-loop-b l = (l.n ≡ decimal (take l.b-index l.digits)) × (l.n ≤ most)
