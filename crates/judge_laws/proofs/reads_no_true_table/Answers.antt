use Rattle.judge_laws.proofs.TrueTables.{reads_no_true_table}
use Rattle.judge_laws.proofs.reads_no_true_table.Goals as goal

pub returns : goal.returns
returns c = reads_no_true_table
