use Rattle.judge_laws.proofs.OneGo.{runs_in_one_go}
use Rattle.judge_laws.proofs.runs_in_one_go.Goals as goal

pub returns : goal.returns
returns c = runs_in_one_go
