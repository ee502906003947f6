use Rattle.judge_facts.proofs.ReadingNames.{judges_on_reads}
use Rattle.judge_facts.proofs.judges_on_reads.Goals as goal

pub returns : goal.returns
returns c = judges_on_reads
