use Rattle.judge_laws.proofs.Numbers.{takes_values}
use Rattle.judge_laws.proofs.takes_values.Goals as goal

pub returns : goal.returns
returns c = takes_values
