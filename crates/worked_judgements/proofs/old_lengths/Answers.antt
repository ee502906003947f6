use Rattle.worked_judgements.proofs.OldLengths.{old_lengths}
use Rattle.worked_judgements.proofs.old_lengths.Goals as goal

pub returns : goal.returns
returns c = old_lengths
