use Rattle.worked_judgements.proofs.Worked.{keeping}
use Rattle.worked_judgements.proofs.keeping.Goals as goal

pub returns : goal.returns
returns c = keeping
