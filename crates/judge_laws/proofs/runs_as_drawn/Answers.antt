use Rattle.judge_laws.proofs.Drawing.{runs_as_drawn}
use Rattle.judge_laws.proofs.runs_as_drawn.Goals as goal

pub returns : goal.returns
returns c = runs_as_drawn
