use Rattle.std.proofs.Common.{◌/◌, arith}
use Rattle.pv_fraction.specs.Amounts.{whole}
use Rattle.pv_fraction.proofs.Division.{divides, exact_part}
use Rattle.pv_fraction.proofs.fraction.Fraction.of.Goals as goal

pub returns-then-b-le40-clause-exact : goal.returns-then-b-le40-clause-exact
returns-then-b-le40-clause-exact c =
    exact_part (whole / c.args.b) c.args.a c.args.b whole
    (divides c.args.b (omega (arith, c.if-a-ge1.true, c.if-a-b.true)) c.if-b-le40.true)
