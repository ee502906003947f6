use Rattle.judge_facts.proofs.Without.{enters_without_facts}
use Rattle.judge_facts.proofs.enters_without_facts.Goals as goal

pub returns : goal.returns
returns c = enters_without_facts
