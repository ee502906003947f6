use Rattle.judge_laws.proofs.Drawing.{enters_as_drawn}
use Rattle.judge_laws.proofs.enters_as_drawn.Goals as goal

pub returns : goal.returns
returns c = enters_as_drawn
