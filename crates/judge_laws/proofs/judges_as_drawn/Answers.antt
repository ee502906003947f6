use Rattle.judge_laws.proofs.Together.{judges_as_drawn}
use Rattle.judge_laws.proofs.judges_as_drawn.Goals as goal

pub returns : goal.returns
returns c = judges_as_drawn
