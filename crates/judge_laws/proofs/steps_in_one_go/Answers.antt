use Rattle.judge_laws.proofs.OneGo.{steps_in_one_go}
use Rattle.judge_laws.proofs.steps_in_one_go.Goals as goal

pub returns : goal.returns
returns c = steps_in_one_go
