use Rattle.worked_judgements.proofs.Worked.{counting}
use Rattle.worked_judgements.proofs.counting.Goals as goal

pub returns : goal.returns
returns c = counting
