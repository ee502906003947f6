use Rattle.std.proofs.Common.{sym, ◌∙◌}
use Rattle.pv_plain.proofs.Oldness.{old_read}
use Rattle.pv_plain.proofs.olds.formula_has_old.Goals as goal

pub returns : goal.returns
returns c = c.has_old.ensures ∙ sym (old_read c.args.e.now)
