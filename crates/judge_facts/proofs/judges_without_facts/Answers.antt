use Rattle.judge_facts.proofs.Without.{judges_without_facts}
use Rattle.judge_facts.proofs.judges_without_facts.Goals as goal

pub returns : goal.returns
returns c = judges_without_facts
