use Rattle.worked_judgements.proofs.Worked.{filling}
use Rattle.worked_judgements.proofs.filling.Goals as goal

pub returns : goal.returns
returns c = filling
