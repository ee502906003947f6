use Rattle.judge_laws.proofs.Judging.{judges_as_lazy}
use Rattle.judge_laws.proofs.judges_as_lazy.Goals as goal

pub returns : goal.returns
returns c = judges_as_lazy
