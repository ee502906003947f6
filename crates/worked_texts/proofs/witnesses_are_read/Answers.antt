use Rattle.worked_texts.proofs.Witnesses.{witnesses_read}
use Rattle.worked_texts.proofs.witnesses_are_read.Goals as goal

pub returns : goal.returns
returns c = witnesses_read
