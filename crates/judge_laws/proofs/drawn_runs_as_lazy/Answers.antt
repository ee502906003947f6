use Rattle.judge_laws.proofs.Backing.{drawn_runs_as_lazy}
use Rattle.judge_laws.proofs.drawn_runs_as_lazy.Goals as goal

pub returns : goal.returns
returns c = drawn_runs_as_lazy
