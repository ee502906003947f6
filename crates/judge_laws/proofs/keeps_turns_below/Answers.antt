use Rattle.judge_laws.proofs.Numbers.{keeps_turns_below}
use Rattle.judge_laws.proofs.keeps_turns_below.Goals as goal

pub returns : goal.returns
returns c = keeps_turns_below
