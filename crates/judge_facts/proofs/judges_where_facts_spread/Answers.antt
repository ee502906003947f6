use Rattle.judge_facts.proofs.Lockstep.{judges_where_facts_spread}
use Rattle.judge_facts.proofs.judges_where_facts_spread.Goals as goal

pub returns : goal.returns
returns c = judges_where_facts_spread
