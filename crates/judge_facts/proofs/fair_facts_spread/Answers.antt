use Rattle.judge_facts.proofs.Spreading.{fair_facts_spread}
use Rattle.judge_facts.proofs.fair_facts_spread.Goals as goal

pub returns : goal.returns
returns c = fair_facts_spread
