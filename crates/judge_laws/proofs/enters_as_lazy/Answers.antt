use Rattle.judge_laws.proofs.Judging.{enters_as_lazy}
use Rattle.judge_laws.proofs.enters_as_lazy.Goals as goal

pub returns : goal.returns
returns c = enters_as_lazy
