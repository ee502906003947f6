use Rattle.std.proofs.Common.{◌≡◌, ◌+◌, drop}
use Rattle.std.specs.Option.{option_map}
use Rattle.pv_tokens.specs.Reading.{comment_len}
use Rattle.pv_tokens.proofs.pieces.comment_len.Given as goal

-- what is left ends where all of it does
abbrev pub invariant-loop-i : goal.invariant-loop-i
invariant-loop-i l = option_map (λ n. n + l.i) (comment_len (drop l.i l.bytes)) ≡ comment_len l.bytes
