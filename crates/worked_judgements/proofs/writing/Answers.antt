use Rattle.worked_judgements.proofs.Worked.{writing}
use Rattle.worked_judgements.proofs.writing.Goals as goal

pub returns : goal.returns
returns c = writing
