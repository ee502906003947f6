use Rattle.std.proofs.Common.{◌+◌, arith}
use Rattle.pv_tokens.proofs.Decimals.{decimal-take, decimal-more}
use Rattle.pv_tokens.proofs.reading.number.Goals as goal

pub returns-then-n-digit : goal.returns-then-n-digit
returns-then-n-digit c =
    let digits = c.args.digits.now in
    omega (
      arith,
      decimal-more digits c.loop-b.b-index 0 c.loop-b-test.true,
      decimal-take digits (c.loop-b.b-index + 1),
      c.saturating_sub.ensures,
    )
