use Rattle.judge_laws.proofs.Falling.{was_held}
use Rattle.judge_laws.proofs.was_held.Goals as goal

pub returns : goal.returns
returns c = was_held
