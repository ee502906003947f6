use Rattle.std.proofs.Common.{sym}
use Rattle.pv_values.proofs.Comparisons.{things_differ}
use Rattle.pv_values.proofs.sames.same_things.Goals as goal

pub returns-then-a-b : goal.returns-then-a-b
returns-then-a-b c = sym (things_differ c.args.a.now c.args.b.now c.if-a-b.true)
