use Rattle.worked_judgements.proofs.Worked.{aliasing}
use Rattle.worked_judgements.proofs.aliasing.Goals as goal

pub returns : goal.returns
returns c = aliasing
