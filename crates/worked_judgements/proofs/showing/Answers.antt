use Rattle.worked_judgements.proofs.Worked.{showing}
use Rattle.worked_judgements.proofs.showing.Goals as goal

pub returns : goal.returns
returns c = showing
