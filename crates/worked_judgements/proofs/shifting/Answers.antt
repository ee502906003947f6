use Rattle.worked_judgements.proofs.Worked.{shifting}
use Rattle.worked_judgements.proofs.shifting.Goals as goal

pub returns : goal.returns
returns c = shifting
