use Rattle.worked_judgements.proofs.Worked.{folding}
use Rattle.worked_judgements.proofs.folding.Goals as goal

pub returns : goal.returns
returns c = folding
