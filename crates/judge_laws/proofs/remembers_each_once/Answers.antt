use Rattle.judge_laws.proofs.Remembering.{remembers_each_once}
use Rattle.judge_laws.proofs.remembers_each_once.Goals as goal

pub returns : goal.returns
returns c = remembers_each_once
