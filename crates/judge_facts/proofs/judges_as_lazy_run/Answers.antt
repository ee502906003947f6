use Rattle.judge_facts.proofs.Goodness.{judges_as_lazy_run}
use Rattle.judge_facts.proofs.judges_as_lazy_run.Goals as goal

pub returns : goal.returns
returns c = judges_as_lazy_run
