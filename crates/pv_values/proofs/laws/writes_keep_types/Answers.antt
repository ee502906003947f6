use Rattle.pv_values.proofs.Keeping.{write_keeps}
use Rattle.pv_values.proofs.laws.writes_keep_types.Goals as goal

pub returns : goal.returns
returns c = write_keeps
