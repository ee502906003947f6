use Rattle.std.proofs.Common.{◌≡◌, drop}
use Rattle.pv_values.specs.Sames as sames
use Rattle.pv_values.proofs.sames.agree_on.Given as goal

abbrev pub invariant-loop-field : goal.invariant-loop-field
invariant-loop-field l = sames.agree_on (drop l.field-index l.names) l.a l.b ≡ sames.agree_on l.names l.a l.b
