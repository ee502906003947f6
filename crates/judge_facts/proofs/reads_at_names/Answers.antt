use Rattle.judge_facts.proofs.ReadingNames.{reads_at_names}
use Rattle.judge_facts.proofs.reads_at_names.Goals as goal

pub returns : goal.returns
returns c = reads_at_names
